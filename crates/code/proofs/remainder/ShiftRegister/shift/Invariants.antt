-- The places passed are shifted.
use Rattle.std.proofs.Common.{◌≡◌, length}
use Rattle.code.specs.Division.{Shifted}
use Rattle.code.proofs.remainder.ShiftRegister.shift.Given as goal

abbrev pub invariant-loop-p : goal.invariant-loop-p
invariant-loop-p l = record { size : length l.symbols ≡ 33; shifted : Shifted l.initial.symbols l.feedback l.p l.symbols }
