-- The rows before the pivot stay, those passed are reduced and moved down, and the others are as they were.
use Rattle.std.proofs.Common.{◌≡◌, ℕ, ◌+◌, ◌<◌, ◌≤◌}
use Rattle.decoder.specs.Elimination.{row_at, Candidate}
use Rattle.decoder.proofs.elimination.eliminate.Given as goal

abbrev pub invariant-loop-i : goal.invariant-loop-i
invariant-loop-i g l =
    ((t : ℕ) → t < l.p → row_at l.rows t ≡ row_at l.initial.rows t)
    × ((t : ℕ) → l.p ≤ t → t + 1 < l.i → Candidate g.F.Adds.group g.F.Field.ring l.window.s.now l.window.n (l.window.k + 1) (row_at l.rows t))
    × ((t : ℕ) → l.p ≤ t → t + 1 < l.i → (row_at l.rows t).degree ≡ (row_at l.initial.rows (t + 1)).degree)
    × ((t : ℕ) → l.i ≤ t → row_at l.rows t ≡ row_at l.initial.rows t)
