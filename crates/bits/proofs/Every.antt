-- Computed tests at each number below a bound.
use lib.Ieee.Bits.{is_true}
use Rattle.std.specs.Prelude.{◌≡◌, ℕ, zero, suc, ◌<◌, Bool, ◌&&◌, true, false, T, ◌⊎◌}
use Rattle.std.proofs.Common.{inl, inr, not-suc-le-zero, le_of_suc-le-suc, eq-or-lt_of_le}
use Rattle.std.proofs.lemmas.Float.{T_from_true}
use Rattle.bits.specs.Every.{every, every_two}

pub both_left : (a b : Bool) → T (a && b) → T a
both_left true b t = tt
both_left false b t = t

pub both_right : (a b : Bool) → T (a && b) → T b
both_right true b t = t
both_right false b t = absurd t

pub passes_at : (f : ℕ → Bool) (n : ℕ) → T (every f n) → (k : ℕ) → k < n → T (f k)
passes_at f zero t k h = absurd (not-suc-le-zero h)
passes_at f (suc n) t k h = go (passes_at f n (both_right (f n) (every f n) t) k) (eq-or-lt_of_le (le_of_suc-le-suc h))
  where
    go : (k < n → T (f k)) → (k ≡ n) ⊎ (k < n) → T (f k)
    go r (inl e) = rw e (both_left (f n) (every f n) t)
    go r (inr l) = r l

pub every_at : (f : ℕ → Bool) (n : ℕ) → every f n ≡ true → (k : ℕ) → k < n → f k ≡ true
every_at f n t k h = is_true (f k) (passes_at f n (T_from_true (every f n) t) k h)

pub every_two_at : (f : ℕ → ℕ → Bool) (n : ℕ) → every_two f n ≡ true → (k m : ℕ) → k < n → m < n → f k m ≡ true
every_two_at f n t k m h l = every_at (f k) n (every_at (λ k. every (f k) n) n t k h) m l
