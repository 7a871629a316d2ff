use Rattle.std.proofs.Common.{ℕ, ◌+◌, ◌*◌, ◌/◌, ◌%◌, ◌^◌, [], ◌∷◌, ap, ◌∙◌, ap₂}
use lib.Bits.{bit_xor}
use Rattle.blocks.specs.Groups.{one_if}
use Rattle.blocks.specs.Scrambled.{memory_in, what_came_in}
use Rattle.blocks.proofs.Words.{one_if-small, passed_one}
use Rattle.blocks.proofs.scramble.ReceivedDirection.bit.Goals as goal

pub returns : goal.returns
returns c = rw (← c.memory.view_is) (
    let m : ℕ = c.memory.inside.bits in
    let d : ℕ = bit_xor c.from-received.result c.tail.result % 2 in
    let p = passed_one m c.memory.invariant what_came_in (one_if c.args.y) d (one_if c.args.y) (one_if-small c.args.y) (one_if-small c.args.y)
    (ap₂ (λ (u v : ℕ). bit_xor u v % 2) c.from-received.ensures c.tail.ensures) (λ a b e f. e) in
    record {
      gives = ap (λ (b : ℕ). b ∷ []) c.is_odd.ensures ∙ p.0;
      leaves = ap (λ (b : ℕ). memory_in (m / 2 + b * 2 ^ 57 % 2 ^ 64)) c.from-received.ensures ∙ p.1;
    })
