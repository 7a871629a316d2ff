-- The values of the coefficients passed; with one more, those at the points passed are stepped, and the others as they were.
use Rattle.std.proofs.Common.{◌≡◌, ℕ, ◌≤◌, length, get_or}
use Rattle.decoder.specs.Words.{Stepped, Values, falling}
use Rattle.decoder.proofs.roots.put_values.Given as goal

abbrev pub invariant-loop-c : goal.invariant-loop-c
invariant-loop-c g l =
    Values g.F.Adds.group g.F.Field.ring (falling g.F.Adds.group l.v (length l.v)) (length l.yielded) l.points (length l.points) l.values

abbrev pub invariant-loop-i : goal.invariant-loop-i
invariant-loop-i g l =
    let G = g.F.Adds.group in
    Stepped G g.F.Field.ring l.initial.values l.points l.c l.i l.values
    × ((k : ℕ) → l.i ≤ k → get_or l.values k G.zero ≡ get_or l.initial.values k G.zero)
