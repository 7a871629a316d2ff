use Rattle.std.proofs.Common.{ℕ, ◌+◌, length, sym, ap, ◌∙◌, arith}
use Rattle.bits.specs.Bits.{bit}
use Rattle.bits.proofs.Tables.{field-table}
use Rattle.pairs.proofs.Messaged.{symbols_all}
use Rattle.pairs.proofs.message.put_bits.Goals as goal

pub returns : goal.returns
returns c =
    let n : ℕ = length c.args.bits.now in
    symbols_all c.loop-i.bits (λ i. bit c.args.x (0 + i)) n (omega arith) (λ k h. c.loop-i.invariant k (omega arith) ∙ ap (bit c.args.x) (omega arith)) ∙ sym (field-table c.args.x 0 n)
