use Rattle.std.proofs.Common.{ℕ, ap₂}
use lib.Bits.{bit_xor}
use Rattle.blocks.proofs.Words.{descrambled-word}
use Rattle.blocks.proofs.scramble.ReceivedDirection.word.Goals as goal

pub returns : goal.returns
returns c = rw (← c.memory.view_is) (
    let m : ℕ = c.memory.inside.bits in
    let p = descrambled-word m c.memory.invariant c.args.y (bit_xor c.taps.result c.tail.result) (ap₂ bit_xor c.taps.ensures c.tail.ensures) in
    record { gives = p.0; leaves = p.1 })
