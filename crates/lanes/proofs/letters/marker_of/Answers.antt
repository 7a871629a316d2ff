use Rattle.std.proofs.Common.{◌≡◌, ℕ, ◌<◌, ◌≤◌, List, [], length, replicate, slice_index_or, Bor, ap, ◌∙◌, arith}
use Rattle.std.specs.Prelude.{Option, Some, None, MatchOption, unwrap_or}
use Rattle.std.specs.Option.{option_map}
use Rattle.lanes.specs.Letters.{marker_from, layout_of}
use Rattle.lanes.specs.Markers.{marker_at}
use Rattle.lanes.proofs.Tables.{marker_here, marker_past}
use Rattle.lanes.proofs.letters.marker_of.Goals as goal

-- the marker of what stands at l, if anything does
looked_up : (t : List (List ℕ)) (l : ℕ) (P : Bor (List ℕ) → Type 0) (o : Option (Bor (List ℕ))) (r : List ℕ) →
    MatchOption o (length t ≤ l) (λ x. (l < length t) × P x) → unwrap_or (option_map (λ x. x.now) o) [] ≡ slice_index_or t l [] →
    MatchOption o (r ≡ replicate 15 0) (λ x. r ≡ marker_from x.now) → (pairs : ℕ) → r ≡ marker_at (layout_of t pairs) l
looked_up t l P None r i e h pairs = h ∙ marker_past t pairs l i
looked_up t l P (Some x) r i e h pairs = h ∙ ap marker_from e ∙ marker_here t pairs l i.0

pub returns : goal.returns
returns c =
    let look = c.get.ensures.lookup in
    looked_up c.args.letters.now c.args.lane _ c.get.result c.map_or.result look.3 (look.4 (omega arith) []) c.map_or.ensures
