-- The tables hold the powers of x, and the exponents of those.
use Rattle.std.proofs.Common.{◌≡◌, ℕ, zero, suc, ◌+◌, ◌<◌, Bool, ◌&&◌, true, T, eqb, ltb, List, [], ◌∷◌, length, get_or, drop, sym, refl, ap, ◌∙◌, le_of_suc-le-suc, not-suc-le-zero, add-suc, suc-add, zero-add, arith, eqb→eq, ltb→lt}
use Rattle.std.proofs.lemmas.List.{get_or-drop}
use Rattle.polynomials.specs.Product.{step, shifted}
use Rattle.bits.proofs.Every.{both_left, both_right}
use Rattle.gf1024.proofs.PowerLists.{exps, logs}

runs : ℕ → List ℕ → Bool
runs a [] = true
runs a (x ∷ xs) = eqb x a && runs (step 9 1033 a) xs

runs_at : (a : ℕ) (xs : List ℕ) → T (runs a xs) → (k : ℕ) → k < length xs → get_or xs k 0 ≡ shifted k a
unfolding runs
runs_at a [] t k h = absurd (not-suc-le-zero h)
runs_at a (x ∷ xs) t zero h = eqb→eq x a (both_left (eqb x a) (runs (step 9 1033 a) xs) t)
runs_at a (x ∷ xs) t (suc k) h = runs_at (step 9 1033 a) xs (both_right (eqb x a) (runs (step 9 1033 a) xs) t) k (le_of_suc-le-suc h)

all_run : T (runs 1 exps)
unfolding runs exps step
all_run = tt

exps_size : length exps ≡ 2048
unfolding exps
exps_size = refl

pub exp_at : (k : ℕ) → k < 2048 → get_or exps k 0 ≡ shifted k 1
exp_at k h = runs_at 1 exps all_run k (rw exps_size h)

-- x is the exponent of a
abbrev fine_one : ℕ → ℕ → Bool
fine_one a x = ltb x 1023 && eqb (get_or exps x 0) a

abbrev fine : ℕ → List ℕ → Bool
fine a [] = true
fine a (x ∷ xs) = fine_one a x && fine (suc a) xs

fine_at : (a : ℕ) (xs : List ℕ) → T (fine a xs) → (k : ℕ) → k < length xs → T (fine_one (k + a) (get_or xs k 0))
fine_at a [] t k h = absurd (not-suc-le-zero h)
fine_at a (x ∷ xs) t zero h = rw zero-add (both_left (fine_one a x) (fine (suc a) xs) t)
fine_at a (x ∷ xs) t (suc k) h = rw (suc-add, ← add-suc) (fine_at (suc a) xs (both_right (fine_one a x) (fine (suc a) xs) t) k (le_of_suc-le-suc h))

all_fine : T (fine 1 (drop 1 logs))
unfolding logs exps
all_fine = tt

logs_size : length (drop 1 logs) ≡ 1023
unfolding logs
logs_size = refl

pub log_at : (a : ℕ) → 0 < a → a < 1024 → (get_or logs a 0 < 1023) × (shifted (get_or logs a 0) 1 ≡ a)
log_at zero p h = absurd (not-suc-le-zero p)
log_at (suc a) p h = rw read (small, sym (runs_at 1 exps all_run x (rw exps_size (omega (arith, small)))) ∙ eqb→eq (get_or exps x 0) (a + 1) (both_right (ltb x 1023) (eqb (get_or exps x 0) (a + 1)) t) ∙ omega arith)
  where
    x : ℕ
    x = get_or (drop 1 logs) a 0

    read : get_or logs (suc a) 0 ≡ get_or (drop 1 logs) a 0
    read = ap (λ n. get_or logs n 0) (let e : suc a ≡ 1 + a = omega arith in e) ∙ sym (get_or-drop 1 logs a 0)

    t : T (fine_one (a + 1) x)
    t = fine_at 1 (drop 1 logs) all_fine a (rw logs_size (le_of_suc-le-suc h))

    small : x < 1023
    small = ltb→lt x 1023 (both_left (ltb x 1023) (eqb (get_or exps x 0) (a + 1)) t)
