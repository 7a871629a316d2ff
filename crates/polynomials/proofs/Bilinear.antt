-- The product respects bit_xor in each of its factors.
use Rattle.std.specs.Prelude.{◌≡◌, ℕ, zero, suc, ◌+◌, ◌*◌, ◌/◌, ◌%◌, ◌^◌, ◌<◌, bit_xor, refl}
use Rattle.std.proofs.Common.{sym, ◌∙◌, ap, ap₂, zero-mul, one-mul, add-zero, arith, lit<}
use Rattle.std.specs.Int.Bits.{xor_zero_l, xor_zero_r, xor_self}
use Rattle.std.proofs.lemmas.Nat.{xor_mod, xor_shr, xor_block}
use Rattle.polynomials.specs.Product.{step, product}
use Rattle.polynomials.proofs.Linear.{swapped, Additive}

bit_times_sum : (n a b : ℕ) → n < 2 → n * bit_xor a b ≡ bit_xor (n * a) (n * b)
bit_times_sum zero a b h = rw (zero-mul (bit_xor a b), zero-mul a, zero-mul b) (sym (xor_self 0))
bit_times_sum (suc zero) a b h = rw (one-mul (bit_xor a b), one-mul a, one-mul b)
bit_times_sum (suc (suc n)) a b h = absurd (omega arith)

sum_of_bits : (m n a : ℕ) → m < 2 → n < 2 → bit_xor m n * a ≡ bit_xor (m * a) (n * a)
sum_of_bits zero n a h k = rw (zero-mul a, xor_zero_l n, xor_zero_l (n * a))
sum_of_bits (suc zero) zero a h k = rw (one-mul a, zero-mul a) (sym (xor_zero_r a))
sum_of_bits (suc zero) (suc zero) a h k = rw (one-mul a, xor_self a) (zero-mul a)
sum_of_bits (suc zero) (suc (suc n)) a h k = absurd (omega arith)
sum_of_bits (suc (suc m)) n a h k = absurd (omega arith)

double_sum : (a b : ℕ) → bit_xor a b * 2 ≡ bit_xor (a * 2) (b * 2)
double_sum a b =
    let e : bit_xor (a * 2 + 0) (b * 2 + 0) ≡ bit_xor a b * 2 + 0 = xor_block 1 a b 0 0 (lit< tt) (lit< tt) in
    sym (rw (add-zero (a * 2), add-zero (b * 2), add-zero (bit_xor a b * 2)) at e)

pub step_sum : (j m : ℕ) → Additive (step j m)
unfolding step
step_sum j m a b =
    ap₂ bit_xor (double_sum a b)
    (ap (λ x. x % 2 * m) (xor_shr a b j) ∙ ap (λ x. x * m) (xor_mod (a / 2 ^ j) (b / 2 ^ j) 1) ∙ sum_of_bits (a / 2 ^ j % 2) (b / 2 ^ j % 2) m (omega arith) (omega arith))
    ∙ swapped (a * 2) (b * 2) (a / 2 ^ j % 2 * m) (b / 2 ^ j % 2 * m)

pub product_sum_left : (j m n c : ℕ) → Additive (λ a. product j m n a c)
unfolding product
product_sum_left j m zero c a b = refl
product_sum_left j m (suc n) c a b =
    ap₂ bit_xor (bit_times_sum (c % 2) a b (omega arith))
    (ap (λ x. product j m n x (c / 2)) (step_sum j m a b) ∙ product_sum_left j m n (c / 2) (step j m a) (step j m b))
    ∙ swapped (c % 2 * a) (c % 2 * b) (product j m n (step j m a) (c / 2)) (product j m n (step j m b) (c / 2))

pub product_sum_right : (j m n a : ℕ) → Additive (product j m n a)
unfolding product
product_sum_right j m zero a b c = refl
product_sum_right j m (suc n) a b c =
    ap₂ bit_xor (ap (λ x. x * a) (xor_mod b c 1) ∙ sum_of_bits (b % 2) (c % 2) a (omega arith) (omega arith))
    (ap (product j m n (step j m a)) (xor_shr b c 1) ∙ product_sum_right j m n (step j m a) (b / 2) (c / 2))
    ∙ swapped (b % 2 * a) (c % 2 * a) (product j m n (step j m a) (b / 2)) (product j m n (step j m a) (c / 2))
