use Rattle.std.proofs.Common.{◌≡◌, ℕ, ◌+◌, ◌-◌, ◌/◌, ◌^◌, ◌%◌, ◌<◌, sym, ap, ◌∙◌, arith}
use Rattle.std.proofs.lemmas.Nat.{shr-shr}
use native.Mathlib.Nat.{zero-div}
use Rattle.bits.specs.Bits.{bit}
use Rattle.receiver.proofs.ring.bit_of.Goals as goal

past : (x i : ℕ) → x < 65536 → 16 + i ≡ 16 + i → bit x (16 + i) ≡ 0
past x i h e = let z : x / 2 ^ 16 ≡ 0 = omega arith in ap (λ (y : ℕ). y % 2) (sym (shr-shr x 16 i)) ∙ rw (z, zero-div)

pub returns-else-index-lt16 : goal.returns-else-index-lt16
returns-else-index-lt16 c =
    let e : c.args.index ≡ 16 + (c.args.index - 16) = omega arith in
    sym (ap (bit c.args.word) e ∙ past c.args.word (c.args.index - 16) (omega arith) (omega arith))
