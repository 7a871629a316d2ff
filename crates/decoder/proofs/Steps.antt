-- What one turn of a loop does to the definition that the loop computes.
use Rattle.std.proofs.Common.{◌≡◌, ℕ, ◌+◌, ◌<◌, ◌≤◌, ◌⊎◌, List, length, get_or, set, sym, ap, ◌∙◌, subst, inl, inr, eq-or-lt_of_le, arith, get_or-set_other, get_or-set_same}
use Rattle.field.specs.Laws.{Group, Ring}
use Rattle.decoder.specs.Words.{row_value}
use Rattle.decoder.specs.Errors.{Found, error_value, Subtracted}

module _ {F : Type 0} (g : Group F) (r : Ring F) where
  pub found_no : (v : List F) (d : ℕ) (xs : List F) (i : ℕ) (found : List ℕ) (count : ℕ) → Found g r v d xs i found count → (row_value g r d v (get_or xs i g.zero) ≡ g.zero → ⊥) → Found g r v d xs (i + 1) found count
  found_no v d xs i found count f h = record {
    small = omega (arith, f.small);
    within = λ t l. (let q = f.within t l in omega arith);
    ascend = f.ascend;
    root = f.root;
    all = λ j l e. go j e (eq-or-lt_of_le (let q : j ≤ i = omega arith in q));
  }
    where
      go : (j : ℕ) → row_value g r d v (get_or xs j g.zero) ≡ g.zero → (j ≡ i) ⊎ (j < i) → (t : ℕ) × (t < count) × (get_or found t 0 ≡ j)
      go j e (inl q) = absurd (h (ap (λ k. row_value g r d v (get_or xs k g.zero)) (sym q) ∙ e))
      go j e (inr q) = f.all j q e

  pub found_yes : (v : List F) (d : ℕ) (xs : List F) (i : ℕ) (found : List ℕ) (count : ℕ) → Found g r v d xs i found count → count < length found → row_value g r d v (get_or xs i g.zero) ≡ g.zero → Found g r v d xs (i + 1) (set found count i) (count + 1)
  found_yes v d xs i found count f h e = record {
    small = omega (arith, f.small);
    within = λ t l. (let q = at_lower t in let z = at_top in by_cases t l (λ k. k < i + 1) (λ b. (let w = f.within t b in omega arith)) (omega arith));
    ascend = λ t u l k. by_cases u k (λ z. get_or (set found count i) t 0 < z) (λ b. rw (at_lower t (omega arith)) (f.ascend t u l b)) (rw (at_lower t (omega arith)) (f.within t (omega arith)));
    root = λ t l. by_cases t l (λ z. row_value g r d v (get_or xs z g.zero) ≡ g.zero) (λ b. f.root t b) e;
    all = λ j l q. go j q (eq-or-lt_of_le (let w : j ≤ i = omega arith in w));
  }
    where
      at_top : get_or (set found count i) count 0 ≡ i
      at_top = get_or-set_same found count i 0 h

      at_lower : (t : ℕ) → t < count → get_or (set found count i) t 0 ≡ get_or found t 0
      at_lower t l = get_or-set_other found count t i 0 (λ q. (omega arith))

      by_cases : (t : ℕ) → t < count + 1 → (P : ℕ → Type 0) → (t < count → P (get_or found t 0)) → P i → P (get_or (set found count i) t 0)
      by_cases t l P lower top = pick (eq-or-lt_of_le (let w : t ≤ count = omega arith in w))
        where
          pick : (t ≡ count) ⊎ (t < count) → P (get_or (set found count i) t 0)
          pick (inl q) = subst P (sym (ap (λ k. get_or (set found count i) k 0) q ∙ at_top)) top
          pick (inr q) = subst P (sym (at_lower t q)) (lower q)

      go : (j : ℕ) → row_value g r d v (get_or xs j g.zero) ≡ g.zero → (j ≡ i) ⊎ (j < i) → (t : ℕ) × (t < count + 1) × (get_or (set found count i) t 0 ≡ j)
      go j q (inl w) = (count, (let z : count < count + 1 = omega arith in z), at_top ∙ sym w)
      go j q (inr w) = let a = f.all j w q in (a.0, (let z : a.0 < count + 1 = omega (arith, a.1) in z), at_lower a.0 a.1 ∙ a.2)

  -- one place more
  pub subtracted_next : (old : List F) (found : List ℕ) (xs s : List F) (m j : ℕ) (out : List F) (y : F) → Subtracted g r old found xs s m j out → j < m
      → ((t u : ℕ) → t < u → u < m → get_or found t 0 < get_or found u 0) → get_or found j 0 < length out
      → y ≡ g.plus (get_or out (get_or found j 0) g.zero) (g.minus (error_value g r xs (λ k. get_or s k g.zero) m j))
      → Subtracted g r old found xs s m (j + 1) (set out (get_or found j 0) y)
  subtracted_next old found xs s m j out y c l asc small e = record {
    done = λ t h. done_at t (eq-or-lt_of_le (let q : t ≤ j = omega arith in q));
    todo = λ t h k. get_or-set_other out (get_or found j 0) (get_or found t 0) y g.zero (λ q. (let w = asc j t (omega arith) k in omega arith)) ∙ c.todo t (omega arith) k;
    rest = λ i h. get_or-set_other out (get_or found j 0) i y g.zero (λ q. h j l (sym q)) ∙ c.rest i h;
  }
    where
      done_at : (t : ℕ) → (t ≡ j) ⊎ (t < j) → get_or (set out (get_or found j 0) y) (get_or found t 0) g.zero ≡ g.plus (get_or old (get_or found t 0) g.zero) (g.minus (error_value g r xs (λ k. get_or s k g.zero) m t))
      done_at t (inl q) =
          rw q (get_or-set_same out (get_or found j 0) y g.zero small ∙ e ∙ ap (λ z. g.plus z (g.minus (error_value g r xs (λ k. get_or s k g.zero) m j))) (c.todo j (omega arith) l))
      done_at t (inr q) = get_or-set_other out (get_or found j 0) (get_or found t 0) y g.zero (λ z. (let w = asc t j q l in omega arith)) ∙ c.done t q
