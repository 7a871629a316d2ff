-- Each pair of octets is a symbol.
use Rattle.std.proofs.Common.{◌≡◌, ◌/◌, ◌<◌, ℕ, List, [], length, get_or, sym, ◌∙◌, ap, zero-add, arith, rules}
use Rattle.host.proofs.Octets.{crossed, low_first, low_first-pair}
use Rattle.code.proofs.Turns.{each_call}
use Rattle.host.proofs.symbols.load.Goals as goal

pub returns : goal.returns
returns g c =
    let made = c.from_fn.ensures.items in
    let long : length c.from_fn.result ≡ g.row.N = made.long in
    let xs : List ℕ = c.args.octets.now in
    let pairs : List (List ℕ) = c.as_chunks.result.0.now in
    sym (crossed xs c.from_fn.result (omega arith) (λ k h.
    let l : k < g.row.N = omega arith in
    let e : get_or c.from_fn.result k 0 ≡ low_first (get_or pairs k []) =
    rw zero-add at (each_call _ _ (λ i y. y ≡ low_first (get_or pairs i [])) (λ i y q call. search rules) c.from_fn.result 0 g.row.N made.each k 0 l) in
    sym (e ∙ ap (λ (ps : List (List ℕ)). low_first (get_or ps k [])) c.as_chunks.ensures.front ∙ low_first-pair xs (length xs / 2) k (omega arith))))
