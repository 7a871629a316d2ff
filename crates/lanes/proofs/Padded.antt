-- A step of the pad generator.
use Rattle.std.proofs.Common.{◌≡◌, ℕ, ◌+◌, ◌*◌, ◌/◌, ◌%◌, ◌^◌, ◌<◌, List, ◌∷◌, sym, refl, ap, ◌∙◌, ap₂, arith}
use lib.Bits.{bit_xor, xor_mod}
use Rattle.bits.specs.Bits.{field, table, nth}
use Rattle.bits.proofs.Fields.{field_cons, field_low}
use Rattle.lanes.specs.Pads.{pad_before, pad_bit}

pub pad_next : (m : ℕ) → bit_xor (m / 16) (m / 256) % 2 ≡ pad_bit (nth (field m 0 9)) 0
unfolding pad_before field
pad_next m = xor_mod (m / 16) (m / 256) 1

memory_table : (m : ℕ) → table 9 (pad_before (nth (field m 0 9)) 1) ≡ pad_bit (nth (field m 0 9)) 0 ∷ field m 0 8
unfolding pad_before field table
memory_table m = refl

pub pad_moves : (m y : ℕ) → m < 512 → y < 2 → y ≡ pad_bit (nth (field m 0 9)) 0 → field (m * 2 % 512 + y) 0 9 ≡ table 9 (pad_before (nth (field m 0 9)) 1)
pad_moves m y h l e =
    let f : m * 2 % 512 + y ≡ y + 2 * (m % 256) = omega arith in
    let g : m / 256 * 2 ^ 8 + m % 256 ≡ m = omega arith in
    ap (λ (x : ℕ). field x 0 9) f ∙ field_cons y (m % 256) 8 l
    ∙ ap₂ (λ (b : ℕ) (bs : List ℕ). b ∷ bs) e (sym (field_low (m / 256) 8 (m % 256) 0 8 (omega arith) (omega arith)) ∙ ap (λ (x : ℕ). field x 0 8) g)
    ∙ sym (memory_table m)
