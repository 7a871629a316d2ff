-- The symbols passed are added.
use Rattle.code.specs.Division.{Joined}
use Rattle.code.proofs.remainder.«Symbols+SIZE».remainder.Given as goal

abbrev pub invariant-loop-j : goal.invariant-loop-j
invariant-loop-j l = Joined l.self.symbols.now l.initial.symbols l.j l.symbols
