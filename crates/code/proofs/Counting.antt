-- Counting the places at which two words differ.
use Rattle.std.proofs.Common.{◌≡◌, ℕ, zero, suc, ◌+◌, ◌<◌, ◌≤◌, Bool, true, false, not, cond, eqb, ◌⊎◌, List, [], ◌∷◌, length, get_or, sym, refl, ap, ◌∙◌, ap₂, inl, inr, ⊎_elim, le_of_suc-le-suc, add-zero, add-suc, eq-or-lt_of_le, arith, eq-eqb, ne_eqb}
use native.Mathlib.Decide.{ℕ_discrete}
use Rattle.std.proofs.lemmas.Bool.Decides.{nat_tests}
use Rattle.std.proofs.lemmas.List.Sums.{sum_by-cons}
use Rattle.field.specs.Places.{Among}
use Rattle.std.specs.List.{count_by, zip}
use Rattle.code.specs.Code.{differences, distance}

-- one place more
pub count_same : (n : ℕ) (v w : ℕ → ℕ) → v n ≡ w n → differences (suc n) v w ≡ differences n v w
unfolding differences
count_same n v w e = rw (eq-eqb (v n) (w n) e)

pub count_other : (n : ℕ) (v w : ℕ → ℕ) → (v n ≡ w n → ⊥) → differences (suc n) v w ≡ suc (differences n v w)
unfolding differences
count_other n v w e = rw (ne_eqb (v n) (w n) e)

pub count_cong : (n : ℕ) (v v' w w' : ℕ → ℕ) → ((i : ℕ) → i < n → v i ≡ v' i) → ((i : ℕ) → i < n → w i ≡ w' i) → differences n v w ≡ differences n v' w'
unfolding differences
count_cong zero v v' w w' p q = refl
count_cong (suc n) v v' w w' p q =
    ap₂ (λ (b : Bool) (d : ℕ). cond b d (suc d)) (ap₂ eqb (p n (omega arith)) (q n (omega arith))) (count_cong n v v' w w' (λ i l. p i (omega arith)) (λ i l. q i (omega arith)))

pub count_none : (n : ℕ) (v w : ℕ → ℕ) → ((i : ℕ) → i < n → v i ≡ w i) → differences n v w ≡ 0
unfolding differences
count_none zero v w h = refl
count_none (suc n) v w h = count_same n v w (h n (omega arith)) ∙ count_none n v w (λ i l. h i (omega arith))

pub none_counted : (n : ℕ) (v w : ℕ → ℕ) → differences n v w ≡ 0 → (i : ℕ) → i < n → v i ≡ w i
none_counted zero v w e i l = absurd (omega arith)
none_counted (suc n) v w e i l = go (λ z. none_counted n v w z i) (ℕ_discrete (v n) (w n)) (eq-or-lt_of_le (le_of_suc-le-suc l))
  where
    go : (differences n v w ≡ 0 → i < n → v i ≡ w i) → Dec (v n ≡ w n) → (i ≡ n) ⊎ (i < n) → v i ≡ w i
    go ih (yes q) (inl k) = rw k q
    go ih (yes q) (inr k) = ih (sym (count_same n v w q) ∙ e) k
    go ih (no q) k = absurd (let z = count_other n v w q in omega arith)

-- words that agree in the first p of p + n places
pub count_behind : (p n : ℕ) (v w : ℕ → ℕ) → ((i : ℕ) → i < p → v i ≡ w i) → differences (p + n) v w ≤ n
count_behind p zero v w h = rw add-zero (let e = count_none p v w h in omega arith)
count_behind p (suc n) v w h = rw add-suc (go (count_behind p n v w h) (ℕ_discrete (v (p + n)) (w (p + n))))
  where
    go : differences (p + n) v w ≤ n → Dec (v (p + n) ≡ w (p + n)) → differences (suc (p + n)) v w ≤ suc n
    go ih (yes q) = let e = count_same (p + n) v w q in omega arith
    go ih (no q) = let e = count_other (p + n) v w q in omega arith

-- the triangle inequality
step_triangle : (a b c x y z : ℕ) → z ≤ x + y → cond (eqb b c) z (suc z) ≤ cond (eqb a b) x (suc x) + cond (eqb a c) y (suc y)
step_triangle a b c x y z h = grind (arith, nat_tests)

pub triangle : (n : ℕ) (u v w : ℕ → ℕ) → differences n v w ≤ differences n u v + differences n u w
unfolding differences
triangle zero u v w = omega arith
triangle (suc n) u v w = step_triangle (u n) (v n) (w n) (differences n u v) (differences n u w) (differences n v w) (triangle n u v w)

-- the words agree but at the places of the list
abbrev pub Cover : ℕ → (ℕ → ℕ) → (ℕ → ℕ) → List ℕ → Type 0
Cover n v w qs = (i : ℕ) → i < n → (v i ≡ w i) ⊎ Among i qs

-- the places at which they differ, as a list
pub listed : (n : ℕ) (v w : ℕ → ℕ) → (qs : List ℕ) × (length qs ≡ differences n v w) × Cover n v w qs
unfolding differences
listed zero v w = ([], refl, λ i l. absurd (omega arith))
listed (suc n) v w = go (listed n v w) (ℕ_discrete (v n) (w n))
  where
    go : (qs : List ℕ) × (length qs ≡ differences n v w) × Cover n v w qs → Dec (v n ≡ w n) → (qs : List ℕ) × (length qs ≡ differences (suc n) v w) × Cover (suc n) v w qs
    go p (yes q) = (p.0, p.1 ∙ sym (count_same n v w q), λ i l. ⊎_elim (λ e. inl (rw e q)) (λ k. p.2 i k) (eq-or-lt_of_le (le_of_suc-le-suc l)))
    go p (no q) = (
      n ∷ p.0,
      ap suc p.1 ∙ sym (count_other n v w q),
      λ i l. ⊎_elim (λ e. inr (inl e)) (λ k. ⊎_elim (λ e. inl e) (λ a. inr (inr a)) (p.2 i k)) (eq-or-lt_of_le (le_of_suc-le-suc l)),
    )

-- v with the symbol of w at the place p
patched : (ℕ → ℕ) → (ℕ → ℕ) → ℕ → ℕ → ℕ
patched v w p i = cond (eqb i p) (w i) (v i)

patched_at : (v w : ℕ → ℕ) (p i : ℕ) → i ≡ p → patched v w p i ≡ w i
unfolding patched
patched_at v w p i e = rw (eq-eqb i p e)

patched_other : (v w : ℕ → ℕ) (p i : ℕ) → (i ≡ p → ⊥) → patched v w p i ≡ v i
unfolding patched
patched_other v w p i e = rw (ne_eqb i p e)

-- that takes away one difference at most
one_less : (n : ℕ) (v w : ℕ → ℕ) (p : ℕ) → differences n v w ≤ suc (differences n (patched v w p) w)
unfolding differences
one_less zero v w p = omega arith
one_less (suc n) v w p = go (one_less n v w p) (ℕ_discrete n p) (ℕ_discrete (v n) (w n))
  where
    go : differences n v w ≤ suc (differences n (patched v w p) w) → Dec (n ≡ p) → Dec (v n ≡ w n) → differences (suc n) v w ≤ suc (differences (suc n) (patched v w p) w)
    go ih (yes e) (yes q) =
        let a = count_same n v w q in
        let b = count_same n (patched v w p) w (patched_at v w p n e) in
        omega arith
    go ih (yes e) (no q) =
        let a = count_other n v w q in
        let b = count_same n (patched v w p) w (patched_at v w p n e) in
        let c = count_cong n v (patched v w p) w w (λ i l. sym (patched_other v w p i (λ z. (omega arith)))) (λ i l. refl) in
        omega arith
    go ih (no e) (yes q) =
        let a = count_same n v w q in
        let b = count_same n (patched v w p) w (patched_other v w p n e ∙ q) in
        omega arith
    go ih (no e) (no q) =
        let a = count_other n v w q in
        let b = count_other n (patched v w p) w (λ z. q (sym (patched_other v w p n e) ∙ z)) in
        omega arith

-- no more differences than places in a list that covers them
pub covered : (n : ℕ) (v w : ℕ → ℕ) (qs : List ℕ) → Cover n v w qs → differences n v w ≤ length qs
covered n v w [] h = let e = count_none n v w (λ i l. ⊎_elim (λ q. q) (λ a. absurd a) (h i l)) in omega arith
covered n v w (p ∷ ps) h =
    let less = one_less n v w p in
    let ih = covered n (patched v w p) w ps (λ i l. go i (ℕ_discrete i p) (h i l)) in
    omega arith
  where
    go : (i : ℕ) → Dec (i ≡ p) → (v i ≡ w i) ⊎ ((i ≡ p) ⊎ Among i ps) → (patched v w p i ≡ w i) ⊎ Among i ps
    go i (yes e) q = inl (patched_at v w p i e)
    go i (no e) (inl q) = inl (patched_other v w p i e ∙ q)
    go i (no e) (inr (inl q)) = absurd (e q)
    go i (no e) (inr (inr a)) = inr a

-- the first place, and those behind it
differences_front : (n : ℕ) (v w : ℕ → ℕ) → differences (suc n) v w ≡ cond (eqb (v 0) (w 0)) (differences n (λ i. v (suc i)) (λ i. w (suc i))) (suc (differences n (λ i. v (suc i)) (λ i. w (suc i))))
unfolding differences
differences_front zero v w = refl
differences_front (suc n) v w =
    ap (λ d. cond (eqb (v (suc n)) (w (suc n))) d (suc d)) (differences_front n v w)
    ∙ swap (eqb (v (suc n)) (w (suc n))) (eqb (v 0) (w 0)) (differences n (λ i. v (suc i)) (λ i. w (suc i)))
  where
    swap : (a b : Bool) (d : ℕ) → cond a (cond b d (suc d)) (suc (cond b d (suc d))) ≡ cond b (cond a d (suc d)) (suc (cond a d (suc d)))
    swap true true d = refl
    swap true false d = refl
    swap false true d = refl
    swap false false d = refl

-- the pairs of different symbols
pairs : (v w : List ℕ) → length v ≡ length w → count_by (λ p. not (eqb p.0 p.1)) (zip v w) ≡ differences (length v) (λ i. get_or v i 0) (λ i. get_or w i 0)
unfolding differences
pairs [] w e = refl
pairs (x ∷ v) [] e = absurd (omega arith)
pairs (x ∷ v) (y ∷ w) e =
    sum_by-cons (λ p. cond (not (eqb p.0 p.1)) 1 0) (x, y) (zip v w) ∙ one (eqb x y) _ _ (pairs v w (omega arith)) ∙ sym (differences_front (length v) (λ i. get_or (x ∷ v) i 0) (λ i. get_or (y ∷ w) i 0))
  where
    one : (b : Bool) (m n : ℕ) → m ≡ n → cond (not b) 1 0 + m ≡ cond b n (suc n)
    one true m n h = omega arith
    one false m n h = omega arith

pub counted : (v w : List ℕ) → length v ≡ 544 → length w ≡ 544 → count_by (λ p. not (eqb p.0 p.1)) (zip v w) ≡ distance v w
unfolding distance
counted v w long size = pairs v w (long ∙ sym size) ∙ ap (λ n. differences n (λ i. get_or v i 0) (λ i. get_or w i 0)) long
