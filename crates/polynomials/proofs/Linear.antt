-- Functions on numbers that respect bit_xor.
use Rattle.std.specs.Prelude.{◌≡◌, ℕ, zero, suc, ◌-◌, ◌*◌, ◌^◌, ◌<◌, bit_xor}
use Rattle.std.proofs.Common.{sym, ◌∙◌, ap, ap₂, subst, pow-suc, one-mul, arith}
use Rattle.std.proofs.Math.Decide.{dec_lt}
use Rattle.std.specs.Int.Bits.{xor_assoc, xor_self, xor_shifted}
use Rattle.std.proofs.lemmas.Nat.{xor_comm}

-- what holds of 0 and of each power, and is kept by bit_xor, holds of all
pub span : (P : ℕ → Type 0) → P 0 → ((a b : ℕ) → P a → P b → P (bit_xor a b)) → (n : ℕ) → ((i : ℕ) → i < n → P (2 ^ i)) → (a : ℕ) → a < 2 ^ n → P a
span P z s zero h a l = subst P (let e : 0 ≡ a = omega arith in e) z
span P z s (suc n) h a l = go (span P z s n (λ i k. h i (omega arith))) (dec_lt a (2 ^ n))
  where
    go : ((a : ℕ) → a < 2 ^ n → P a) → Dec (a < 2 ^ n) → P a
    go ih (yes q) = ih a q
    go ih (no q) =
        let r : ℕ = a - 2 ^ n in
        let small : r < 2 ^ n = omega (arith, pow-suc 2 n) in
        let e : bit_xor (1 * 2 ^ n) r ≡ a = xor_shifted 1 n r small ∙ omega (arith, one-mul (2 ^ n)) in
        subst P e (s (1 * 2 ^ n) r (rw one-mul (h n (omega arith))) (ih r small))

abbrev pub Additive : (ℕ → ℕ) → Type 0
Additive f = (a b : ℕ) → f (bit_xor a b) ≡ bit_xor (f a) (f b)

pub at_zero : (f : ℕ → ℕ) → Additive f → f 0 ≡ 0
at_zero f h = ap f (sym (xor_self 0)) ∙ h 0 0 ∙ xor_self (f 0)

-- two that agree at each power agree
pub agree : (f g : ℕ → ℕ) → Additive f → Additive g → (n : ℕ) → ((i : ℕ) → i < n → f (2 ^ i) ≡ g (2 ^ i)) → (a : ℕ) → a < 2 ^ n → f a ≡ g a
agree f g hf hg n h a l =
    span (λ x. f x ≡ g x) (at_zero f hf ∙ sym (at_zero g hg))
    (λ x y p q. hf x y ∙ ap₂ bit_xor p q ∙ sym (hg x y)) n h a l

-- (p + q) + (r + s) = (p + r) + (q + s)
pub swapped : (p q r s : ℕ) → bit_xor (bit_xor p q) (bit_xor r s) ≡ bit_xor (bit_xor p r) (bit_xor q s)
swapped p q r s =
    xor_assoc p q (bit_xor r s) ∙ ap (bit_xor p) (sym (xor_assoc q r s) ∙ ap (λ x. bit_xor x s) (xor_comm q r) ∙ xor_assoc r q s)
    ∙ sym (xor_assoc p r (bit_xor q s))
