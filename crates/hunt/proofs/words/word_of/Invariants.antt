-- The bits of the highest positions, as a number.
use Rattle.std.proofs.Common.{◌≡◌, ◌-◌, ◌^◌, ◌<◌, map, drop}
use Rattle.bits.specs.Bits.{bit, number}
use Rattle.hunt.proofs.words.word_of.Given as goal

abbrev pub invariant-loop-i : goal.invariant-loop-i
invariant-loop-i l = (l.word ≡ number (drop (16 - l.i) (map (λ b. bit b l.fn.t) l.fn.bytes))) × (l.word < 2 ^ l.i)
