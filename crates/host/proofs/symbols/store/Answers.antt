-- Each symbol is a pair of octets.
use Rattle.std.proofs.Common.{◌≡◌, ◌^◌, ◌<◌, ℕ, List, [], length, get_or, ◌∙◌, ap, zero-add, rules, arith}
use Rattle.std.specs.List.{flat_map}
use Rattle.std.specs.Int.{to_le_bytes}
use mir.Syntax.{w16}
use Rattle.code.proofs.Turns.{each_call}
use Rattle.host.proofs.Octets.{pairs_of, stored}
use Rattle.host.proofs.symbols.store.Goals as goal

pub returns : goal.returns
returns c =
    let xs : List ℕ = c.args.symbols.now in
    let made = c.from_fn-pairs.ensures.items in
    let n : length xs ≡ 544 = search rules in
    let small : (k : ℕ) → get_or xs k 0 < 2 ^ 16 = search rules in
    let each : (k : ℕ) → k < length xs → get_or c.from_fn-pairs.result k [] ≡ to_le_bytes w16 (get_or xs k 0) =
    λ k l. rw zero-add at (each_call _ _ (λ i y. y ≡ to_le_bytes w16 (get_or xs i 0)) (λ i y q call. search rules) c.from_fn-pairs.result 0 544 made.each k [] (omega arith)) in
    let m = pairs_of xs c.from_fn-pairs.result (omega (arith, made.long)) each in
    c.copy_from_slice.ensures.after ∙ c.as_flattened.ensures.value ∙ ap (flat_map (λ (l : List ℕ). l)) m ∙ stored xs small
