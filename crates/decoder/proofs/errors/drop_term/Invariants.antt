-- The term has dropped out of the syndromes passed, and the others are as they were.
use Rattle.std.proofs.Common.{◌≡◌, ℕ, ◌+◌, ◌<◌, ◌≤◌, get_or}
use Rattle.decoder.specs.Errors.{without_term}
use Rattle.decoder.proofs.errors.drop_term.Given as goal

abbrev pub invariant-loop-k : goal.invariant-loop-k
invariant-loop-k g l =
    let G = g.F.Adds.group in
    ((i : ℕ) → i + 1 < l.k → get_or l.t i G.zero ≡ without_term G g.F.Field.ring l.x (λ j. get_or l.initial.t j G.zero) i)
    × ((i : ℕ) → l.k ≤ i + 1 → get_or l.t i G.zero ≡ get_or l.initial.t i G.zero)
