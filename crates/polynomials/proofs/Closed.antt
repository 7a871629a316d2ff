-- Sums, products and inverses of numbers below 1,024 are below 1,024.
use Rattle.std.specs.Prelude.{◌≡◌, ℕ, zero, suc, ◌*◌, ◌/◌, ◌%◌, ◌<◌, bit_xor}
use Rattle.std.proofs.Common.{◌∙◌, ap, zero-mul, one-mul, arith, lit<}
use Rattle.std.proofs.Math.Decide.{dec_lt}
use Rattle.std.proofs.lemmas.Nat.{xor_lt, xor_shr}
use Rattle.std.specs.Int.Bits.{xor_zero_r}
use Rattle.polynomials.specs.Product.{step, product, times, squares, inverse}

pub low_lt : (a : ℕ) → a % 1024 < 1024
low_lt a = omega arith

pub step_lt : (a : ℕ) → a < 1024 → step 9 1033 a < 1024
unfolding step
step_lt a h = go (dec_lt a 512)
  where
    go : Dec (a < 512) → bit_xor (a * 2) (a / 512 % 2 * 1033) < 1024
    go (yes l) =
        let e : a / 512 % 2 * 1033 ≡ 0 = omega arith in
        rw (e, xor_zero_r (a * 2)) (omega arith)
    go (no l) =
        let e : a / 512 % 2 * 1033 ≡ 1033 = omega arith in
        let top : a * 2 / 1024 ≡ 1 = omega arith in
        let none : bit_xor (a * 2) 1033 / 1024 ≡ 0 = xor_shr (a * 2) 1033 10 ∙ ap (λ x. bit_xor x 1) top in
        rw e (omega arith)

bit_times_lt : (n a : ℕ) → n < 2 → a < 1024 → n * a < 1024
bit_times_lt zero a h l = omega (arith, zero-mul a)
bit_times_lt (suc zero) a h l = omega (arith, one-mul a)
bit_times_lt (suc (suc n)) a h l = absurd (omega arith)

product_lt : (n a b : ℕ) → a < 1024 → product 9 1033 n a b < 1024
unfolding product
product_lt zero a b h = lit< tt
product_lt (suc n) a b h =
    xor_lt 10 (b % 2 * a) (product 9 1033 n (step 9 1033 a) (b / 2)) (bit_times_lt (b % 2) a (omega arith) h) (product_lt n (step 9 1033 a) (b / 2) (step_lt a h))

pub times_lt : (a b : ℕ) → a < 1024 → times a b < 1024
unfolding times
times_lt a b h = product_lt 10 a b h

squares_lt : (n a : ℕ) → a < 1024 → squares n a < 1024
unfolding squares
squares_lt zero a h = lit< tt
squares_lt (suc n) a h = times_lt (times a a) (squares n (times a a)) (times_lt a a h)

pub inverse_lt : (a : ℕ) → a < 1024 → inverse a < 1024
unfolding inverse
inverse_lt a h = squares_lt 9 a h
