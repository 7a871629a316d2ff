-- The squares of 2 in the field of 1024: 1023 different numbers.
use Rattle.std.specs.Prelude.{◌≡◌, ℕ, zero, suc, ◌+◌, ◌-◌, ◌*◌, ◌/◌, ◌%◌, ◌<◌, Bool, ◌&&◌, true, not, T, ◌==◌, ◌≢◌, refl}
use Rattle.std.proofs.Common.{sym, ◌∙◌, ap, not-suc-le-zero, le_of_suc-le-suc, zero-add, suc-add, arith, T_not}
use Rattle.std.proofs.Math.Dec.{eqb_refl}
use Rattle.polynomials.specs.Product.{step, shifted}
use Rattle.bits.proofs.Every.{both_left, both_right}

pub shifted_add : (m n a : ℕ) → shifted (m + n) a ≡ shifted n (shifted m a)
shifted_add zero n a = ap (λ k. shifted k a) (zero-add n)
shifted_add (suc m) n a = ap (λ k. shifted k a) (suc-add m n) ∙ shifted_add m n (step 9 1033 a)

never : ℕ → ℕ → Bool
never zero a = true
never (suc n) a = not (a == 1) && never n (step 9 1033 a)

never_at : (n a : ℕ) → T (never n a) → (k : ℕ) → k < n → shifted k a ≢ 1
unfolding never
never_at zero a t k h e = absurd (not-suc-le-zero h)
never_at (suc n) a t zero h e = T_not (a == 1) (both_left (not (a == 1)) (never n (step 9 1033 a)) t) (rw e (eqb_refl 1))
never_at (suc n) a t (suc k) h e = never_at n (step 9 1033 a) (both_right (not (a == 1)) (never n (step 9 1033 a)) t) k (le_of_suc-le-suc h) e

none : T (never 1022 2)
unfolding never step
none = tt

pub whole : shifted 1023 1 ≡ 1
unfolding step
whole = refl

one_step : step 9 1033 1 ≡ 2
unfolding step
one_step = refl

not_one : (k : ℕ) → 0 < k → k < 1023 → shifted k 1 ≢ 1
not_one zero l h e = absurd (not-suc-le-zero l)
not_one (suc k) l h e = never_at 1022 2 none k (omega arith) (ap (shifted k) (sym one_step) ∙ e)

pub distinct : (i j : ℕ) → i < j → j < 1023 → shifted i 1 ≢ shifted j 1
distinct i j h k e =
    not_one (i + (1023 - j)) (omega arith) (omega arith)
    (shifted_add i (1023 - j) 1 ∙ ap (shifted (1023 - j)) e ∙ sym (shifted_add j (1023 - j) 1) ∙ ap (λ n. shifted n 1) (let q : j + (1023 - j) ≡ 1023 = omega arith in q) ∙ whole)

-- whole turns drop out
turns : (n k : ℕ) → shifted (k * 1023 + n) 1 ≡ shifted n 1
turns n zero = ap (λ m. shifted m 1) (let e : 0 * 1023 + n ≡ n = omega arith in e)
turns n (suc k) =
    ap (λ m. shifted m 1) (let e : suc k * 1023 + n ≡ 1023 + (k * 1023 + n) = omega arith in e)
    ∙ shifted_add 1023 (k * 1023 + n) 1 ∙ ap (shifted (k * 1023 + n)) whole ∙ turns n k

pub shifted_mod : (n : ℕ) → shifted (n % 1023) 1 ≡ shifted n 1
shifted_mod n = sym (turns (n % 1023) (n / 1023)) ∙ ap (λ m. shifted m 1) (let e : n / 1023 * 1023 + n % 1023 ≡ n = omega arith in e)
