use Rattle.std.proofs.Common.{ℕ, ap, ◌∙◌}
use lib.Bits.{bit_xor}
use Rattle.blocks.specs.Taps.{taps}
use Rattle.blocks.proofs.Words.{scrambled-word}
use Rattle.blocks.proofs.scramble.SentDirection.word.Goals as goal

pub returns : goal.returns
returns c = rw (← c.memory.view_is) (
    let m : ℕ = c.memory.inside.bits in
    let p = scrambled-word m c.memory.invariant c.args.x c.taps-y.result (c.taps-y.ensures ∙ ap (λ (z : ℕ). taps (bit_xor c.args.x z)) c.tail.ensures) in
    record { gives = p.0; leaves = p.1 })
