-- The sum of the products passed.
use Rattle.std.proofs.Common.{◌≡◌, length}
use Rattle.decoder.specs.Words.{applied}
use Rattle.decoder.proofs.elimination.Row.apply.Given as goal

abbrev pub invariant-loop-a : goal.invariant-loop-a
invariant-loop-a g l = l.sum ≡ applied g.F.Adds.group g.F.Field.ring l.self.coefficients l.window.s.now l.window.k (length l.yielded)
