-- The roots among the points passed are listed.
use Rattle.std.proofs.Common.{length}
use Rattle.decoder.specs.Errors.{Found}
use Rattle.decoder.proofs.roots.find.Given as goal

abbrev pub invariant-loop-i : goal.invariant-loop-i
invariant-loop-i g l = Found g.F.Adds.group g.F.Field.ring l.v (length l.v) l.points l.i l.found l.count
