-- The lowest number at which a test holds.
use Rattle.std.proofs.Common.{◌≡◌, ℕ, zero, suc, ◌+◌, ◌<◌, Bool, true, false, cond, Some, None, Option, refl, ap, ◌∙◌, inl, inr, add-one, arith}
use Rattle.std.proofs.lemmas.Bool.{cases_lt}
use Rattle.bits.specs.Lowest.{or_else, lowest}

pub lowest_past : (f : ℕ → Bool) (i : ℕ) → lowest f i ≡ None → f i ≡ false → lowest f (i + 1) ≡ None
unfolding lowest
lowest_past f i h e = rw (add-one, h, e)

pub lowest-found : (f : ℕ → Bool) (i n : ℕ) → i < n → lowest f i ≡ None → f i ≡ true → lowest f n ≡ Some i
unfolding lowest
lowest-found f i zero l h e = absurd (omega arith)
lowest-found f i (suc n) l h e = elim (cases_lt i n) [
  | inl m ↦ rw (lowest-found f i n m h e)
  | inr m ↦ let s : n ≡ i = omega arith in rw (s, h, e)
]

-- where there is none below n, the test fails at each
pub none_below : (f : ℕ → Bool) (n : ℕ) → lowest f n ≡ None → (i : ℕ) → i < n → f i ≡ false
unfolding lowest
none_below f zero h i l = absurd (omega arith)
none_below f (suc n) h i l = split (lowest f n) (f n) (λ p. none_below f n p i) refl refl h
  where
    split : (o : Option ℕ) (b : Bool) → (lowest f n ≡ None → i < n → f i ≡ false) → lowest f n ≡ o → f n ≡ b → or_else o (cond b (Some n) None) ≡ None → f i ≡ false
    split (Some k) b below p q e = let z : ◌≡◌ {A = ℕ} 0 1 = cc in absurd (omega arith)
    split None true below p q e = let z : ◌≡◌ {A = ℕ} 0 1 = cc in absurd (omega arith)
    split None false below p q e = elim (cases_lt i n) [
      | inl m ↦ below p m
      | inr m ↦ let s : i ≡ n = omega arith in ap f s ∙ q
    ]

pub lowest_none : (f : ℕ → Bool) (n : ℕ) → ((i : ℕ) → i < n → f i ≡ false) → lowest f n ≡ None
unfolding lowest
lowest_none f zero h = refl
lowest_none f (suc n) h = rw (lowest_none f n (λ i l. h i (omega arith)), h n (omega arith))
