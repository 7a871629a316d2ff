-- Each turn brings a stage.
use Rattle.std.proofs.Common.{◌-◌}
use Rattle.decoder.specs.Elimination.{Stage}
use Rattle.decoder.proofs.elimination.locate.Given as goal

abbrev pub invariant-loop-k : goal.invariant-loop-k
invariant-loop-k g l = Stage g.F.Adds.group g.F.Field.ring l.rows (l.n - l.k) l.s l.n l.k
