use Rattle.std.proofs.Common.{◌≡◌, ℕ, ◌%◌, [], ◌∷◌, ap, ◌∙◌, ap₂, arith}
use lib.Bits.{bit_xor}
use Rattle.blocks.specs.Groups.{one_if}
use Rattle.blocks.specs.Scrambled.{what_went_out}
use Rattle.blocks.proofs.Words.{one_if-small, passed_one}
use Rattle.blocks.proofs.scramble.SentDirection.bit.Goals as goal

pub returns : goal.returns
returns c = rw (← c.memory.view_is) (
    let y : ℕ = bit_xor c.from.result c.tail.result % 2 in
    let p = passed_one c.memory.inside.bits c.memory.invariant what_went_out (one_if c.args.x) y y (one_if-small c.args.x) (omega arith)
    (ap₂ (λ (u v : ℕ). bit_xor u v % 2) c.from.ensures c.tail.ensures) (λ a b d e. e) in
    let z : y % 2 ≡ y = omega arith in
    record { gives = ap (λ (b : ℕ). b ∷ []) (c.is_odd.ensures ∙ z) ∙ p.0; leaves = p.1 })
