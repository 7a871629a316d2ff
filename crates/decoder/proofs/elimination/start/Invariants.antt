-- The powers passed are made.
use Rattle.decoder.specs.Elimination.{Powers}
use Rattle.decoder.proofs.elimination.start.Given as goal

abbrev pub invariant-loop-i : goal.invariant-loop-i
invariant-loop-i g l = Powers g.F.Adds.group g.F.Field.ring l.rows l.i
