-- What remains without the points passed, and the product of their gaps.
use Rattle.std.proofs.Common.{◌≡◌, ℕ, ◌+◌, ◌<◌, ◌≤◌, length, get_or}
use Rattle.decoder.specs.Errors.{without_terms, gaps}
use Rattle.decoder.proofs.errors.error_at.Given as goal

abbrev pub invariant-loop-l : goal.invariant-loop-l
invariant-loop-l g s =
    let G = g.F.Adds.group in
    let R = g.F.Field.ring in
    (s.l ≤ s.j → s.size + s.l ≡ length s.points) × (s.j < s.l → s.size + s.l ≡ length s.points + 1) × (s.gap ≡ gaps G R s.points s.j s.l)
    × ((k : ℕ) → k < s.size → get_or s.t k G.zero ≡ without_terms G R s.points (λ i. get_or s.initial.t i G.zero) s.j s.l k)
