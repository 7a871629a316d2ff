-- The register has the remainder of the symbols passed.
use Rattle.code.specs.Division.{Remainder}
use Rattle.code.proofs.symbols.Symbols.divide.Given as goal

abbrev pub invariant-loop-s : goal.invariant-loop-s
invariant-loop-s g l = Remainder l.s-items l.s-index l.register.symbols
