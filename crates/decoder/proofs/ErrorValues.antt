-- The error values from the syndromes: the terms at the other error places drop out.
use Rattle.std.proofs.Common.{◌≡◌, ℕ, zero, suc, ◌+◌, ◌<◌, ◌≤◌, Bool, true, false, cond, eqb, ◌⊎◌, List, get_or, sym, refl, ap, ◌∙◌, ap₂, inl, inr, ⊎_elim, le_of_suc-le-suc, eq-or-lt_of_le, add-one, arith, ne_eqb, eqb-true}
use borrow.Author.Tests.{eqb-false}
use Rattle.field.specs.Laws.{Group, Ring, FieldLaws}
use Rattle.field.proofs.Algebra.{zero-times, times_zero, one_right, cancel, equal}
use Rattle.field.proofs.Sums.{sum_one}
use Rattle.field.specs.Sums.{syndrome}
use Rattle.field.proofs.Vandermonde.{without, shifted}
use Rattle.decoder.specs.Errors.{without_terms, gaps, without_term}

module _ {F : Type 0} (g : Group F) (r : Ring F) (laws : FieldLaws g r) where
  infixl 60 ◌⊕◌
  infixl 70 ◌⊗◌
  open g use {zero as 𝟎, plus as ◌⊕◌, minus}
  open r use {one as 𝟏, times as ◌⊗◌}
  open laws use {adds}

  pub without_terms-same : (xs : List F) (s s' : ℕ → F) (m j : ℕ) → ((k : ℕ) → k < m → s k ≡ s' k) → (l k : ℕ) → (l ≤ j → k + l < m) → (j < l → k + l < m + 1) → without_terms g r xs s j l k ≡ without_terms g r xs s' j l k
  without_terms-same xs s s' m j h zero k a b = h k (omega (arith, a (omega arith)))
  without_terms-same xs s s' m j h (suc l) k a b =
      go (eqb l j) refl (λ k. without_terms-same xs s s' m j h l k)
    where
      go : (t : Bool) → eqb l j ≡ t → ((k : ℕ) → (l ≤ j → k + l < m) → (j < l → k + l < m + 1) → without_terms g r xs s j l k ≡ without_terms g r xs s' j l k)
          → cond t (without_terms g r xs s j l) (without_term g r (get_or xs l 𝟎) (without_terms g r xs s j l)) k ≡ cond t (without_terms g r xs s' j l) (without_term g r (get_or xs l 𝟎) (without_terms g r xs s' j l)) k
      go true e ih = let q : l ≡ j = eqb-true l j e in ih k (λ z. (let w = b (omega arith) in omega arith)) (λ z. (omega arith))
      go false e ih =
          let q = eqb-false l j e in
          ap₂ (λ u v. u ⊕ minus (get_or xs l 𝟎) ⊗ v)
          (ih (k + 1) (λ z. first z q) (λ z. (let w = b (omega arith) in omega arith)))
          (ih k (λ z. (let w = first z q in omega arith)) (λ z. (let w = b (omega arith) in omega arith)))
        where
          first : l ≤ j → (l ≡ j → ⊥) → k + 1 + l < m
          first z q = let d : suc l ≤ j = ⊎_elim (λ e. absurd (q e)) (λ e. e) (eq-or-lt_of_le z) in let w = a d in omega arith

  module _ (n : ℕ) (x : ℕ → F) (xs : List F) (f : ℕ → ℕ) (j : ℕ) (e : ℕ → F) where
    abbrev chain : ℕ → ℕ → F
    chain zero = e
    chain (suc l) = cond (eqb l j) (chain l) (without g r laws x (f l) (chain l))

    without_terms-syndrome : (l : ℕ) → ((t : ℕ) → t < l → get_or xs t 𝟎 ≡ x (f t)) → (k : ℕ) → without_terms g r xs (syndrome g r n x e) j l k ≡ syndrome g r n x (chain l) k
    without_terms-syndrome zero h k = refl
    without_terms-syndrome (suc l) h k = go (eqb l j) (without_terms-syndrome l (λ t q. h t (omega arith)))
      where
        go : (t : Bool) → ((k : ℕ) → without_terms g r xs (syndrome g r n x e) j l k ≡ syndrome g r n x (chain l) k)
            → cond t (without_terms g r xs (syndrome g r n x e) j l) (without_term g r (get_or xs l 𝟎) (without_terms g r xs (syndrome g r n x e) j l)) k ≡ syndrome g r n x (cond t (chain l) (without g r laws x (f l) (chain l))) k
        go true ih = ih k
        go false ih =
            ap₂ (λ u v. u ⊕ v) (ih (k + 1) ∙ ap (syndrome g r n x (chain l)) (add-one k)) (ap₂ (λ u v. minus u ⊗ v) (h l (omega arith)) (ih k))
            ∙ sym (shifted g r laws n x (chain l) (minus (x (f l))) k)

    still : (l i : ℕ) → chain l i ≡ 𝟎 → chain (suc l) i ≡ 𝟎
    still l i h = go (eqb l j)
      where
        go : (t : Bool) → cond t (chain l) (without g r laws x (f l) (chain l)) i ≡ 𝟎
        go true = h
        go false = ap (λ z. z ⊗ (x i ⊕ minus (x (f l)))) h ∙ zero-times g r laws (x i ⊕ minus (x (f l)))

    chain_zero : (l i : ℕ) → e i ≡ 𝟎 → chain l i ≡ 𝟎
    chain_zero zero i h = h
    chain_zero (suc l) i h = still l i (chain_zero l i h)

    chain_gone : (l t : ℕ) → t < l → (t ≡ j → ⊥) → chain l (f t) ≡ 𝟎
    chain_gone zero t h ne = absurd (omega arith)
    chain_gone (suc l) t h ne = go (λ q. chain_gone l t q ne) (eq-or-lt_of_le (le_of_suc-le-suc h))
      where
        go : (t < l → chain l (f t) ≡ 𝟎) → (t ≡ l) ⊎ (t < l) → chain (suc l) (f t) ≡ 𝟎
        go ih (inl q) =
            let z : eqb l j ≡ false = ne_eqb l j (λ w. ne (q ∙ w)) in
            ap (λ b. cond b (chain l) (without g r laws x (f l) (chain l)) (f t)) z
            ∙ ap (λ w. chain l (f t) ⊗ (x (f t) ⊕ minus (x (f w)))) (sym q) ∙ ap (λ w. chain l (f t) ⊗ w) (adds.opposite (x (f t))) ∙ times_zero g r laws (chain l (f t))
        go ih (inr q) = still l (f t) (ih q)

    chain_gaps : (l : ℕ) → get_or xs j 𝟎 ≡ x (f j) → ((t : ℕ) → t < l → get_or xs t 𝟎 ≡ x (f t)) → chain l (f j) ≡ e (f j) ⊗ gaps g r xs j l
    chain_gaps zero h k = sym (one_right g r laws (e (f j)))
    chain_gaps (suc l) h k = go (eqb l j) (chain_gaps l h (λ t q. k t (omega arith)))
      where
        go : (t : Bool) → chain l (f j) ≡ e (f j) ⊗ gaps g r xs j l
            → cond t (chain l) (without g r laws x (f l) (chain l)) (f j) ≡ e (f j) ⊗ cond t (gaps g r xs j l) (gaps g r xs j l ⊗ (get_or xs j 𝟎 ⊕ minus (get_or xs l 𝟎)))
        go true ih = ih
        go false ih =
            ap₂ (λ u v. u ⊗ v) ih (ap₂ (λ u v. u ⊕ minus v) (sym h) (sym (k l (omega arith)))) ∙ laws.assoc (e (f j)) (gaps g r xs j l) (get_or xs j 𝟎 ⊕ minus (get_or xs l 𝟎))

    -- what is left is the error-value at j, times the gaps
    pub without_terms-term : (m : ℕ) → j < m → ((t : ℕ) → t < m → get_or xs t 𝟎 ≡ x (f t)) → f j < n → ((i : ℕ) → i < n → (e i ≡ 𝟎) ⊎ ((t : ℕ) × (t < m) × (f t ≡ i))) → without_terms g r xs (syndrome g r n x e) j m 0 ≡ e (f j) ⊗ gaps g r xs j m
    without_terms-term m h at small w =
        without_terms-syndrome m at 0
        ∙ sum_one g r laws n (λ i. chain m i ⊗ 𝟏) (f j) small (λ i l ne. ap (λ z. z ⊗ 𝟏) (gone i ne (w i l)) ∙ zero-times g r laws 𝟏)
        ∙ one_right g r laws (chain m (f j)) ∙ chain_gaps m (at j h) at
      where
        gone : (i : ℕ) → (i ≡ f j → ⊥) → (e i ≡ 𝟎) ⊎ ((t : ℕ) × (t < m) × (f t ≡ i)) → chain m i ≡ 𝟎
        gone i ne (inl q) = chain_zero m i q
        gone i ne (inr q) = ap (chain m) (sym q.2) ∙ chain_gone m q.0 q.1 (λ z. ne (sym q.2 ∙ ap f z))

  pub gaps_open : (xs : List F) (j l : ℕ) → ((t : ℕ) → t < l → (t ≡ j → ⊥) → get_or xs j 𝟎 ≡ get_or xs t 𝟎 → ⊥) → gaps g r xs j l ≡ 𝟎 → ⊥
  gaps_open xs j zero h = laws.proper
  gaps_open xs j (suc l) h = go (eqb l j) refl (gaps_open xs j l (λ t q. h t (omega arith)))
    where
      go : (t : Bool) → eqb l j ≡ t → (gaps g r xs j l ≡ 𝟎 → ⊥) → cond t (gaps g r xs j l) (gaps g r xs j l ⊗ (get_or xs j 𝟎 ⊕ minus (get_or xs l 𝟎))) ≡ 𝟎 → ⊥
      go true e ih = ih
      go false e ih = λ q. ih (cancel g r laws (gaps g r xs j l) (get_or xs j 𝟎 ⊕ minus (get_or xs l 𝟎)) q (λ z. h l (omega arith) (eqb-false l j e) (equal g r laws (get_or xs j 𝟎) (get_or xs l 𝟎) z)))
