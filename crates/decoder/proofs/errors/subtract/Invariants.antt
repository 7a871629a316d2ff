-- The errors at the places passed are subtracted.
use Rattle.std.proofs.Common.{length}
use Rattle.decoder.specs.Errors.{Subtracted}
use Rattle.decoder.proofs.errors.subtract.Given as goal

abbrev pub invariant-loop-j : goal.invariant-loop-j
invariant-loop-j g l = Subtracted g.F.Adds.group g.F.Field.ring l.initial.word l.found l.located l.s (length l.found) l.j l.word
