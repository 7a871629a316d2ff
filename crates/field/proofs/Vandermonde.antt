-- Vandermonde: terms at e different points whose first e syndromes are zero are all zero.
use Rattle.std.proofs.Common.{◌≡◌, ℕ, suc, ◌<◌, ◌⊎◌, List, [], ◌∷◌, length, sym, ap, ◌∙◌, ap₂, inl, inr, ⊎_elim, arith}
use native.Mathlib.Decide.{ℕ_discrete, dec_lt}
use Rattle.field.specs.Laws.{Group, Ring, FieldLaws}
use Rattle.field.specs.Sums.{pow, syndrome}
use Rattle.field.specs.Places.{Among, Within, Apart}
use Rattle.field.proofs.Algebra.{times_zero, zero-times, cancel, equal, spread_right, times_left, one_right}
use Rattle.field.proofs.Sums.{sum_same, sum_plus, sum-times, sum_one}

module _ {F : Type 0} (g : Group F) (r : Ring F) (laws : FieldLaws g r) where
  infixl 60 ◌⊕◌
  infixl 70 ◌⊗◌
  open g use {zero as 𝟎, plus as ◌⊕◌, minus}
  open r use {one as 𝟏, times as ◌⊗◌}
  open laws use {adds}

  -- c (x + y) x^k
  term : (c x y p : F) → (c ⊗ (x ⊕ y)) ⊗ p ≡ c ⊗ (x ⊗ p) ⊕ y ⊗ (c ⊗ p)
  term c x y p =
      laws.assoc c (x ⊕ y) p ∙ ap (λ z. c ⊗ z) (spread_right g r laws x y p) ∙ laws.spread c (x ⊗ p) (y ⊗ p)
      ∙ ap (λ z. c ⊗ (x ⊗ p) ⊕ z) (times_left g r laws c y p)

  pub shifted : (n : ℕ) (x c : ℕ → F) (y : F) (k : ℕ) → syndrome g r n x (λ i. c i ⊗ (x i ⊕ y)) k ≡ syndrome g r n x c (suc k) ⊕ y ⊗ syndrome g r n x c k
  shifted n x c y k =
      sum_same g n (λ i. (c i ⊗ (x i ⊕ y)) ⊗ pow r (x i) k) (λ i. c i ⊗ (x i ⊗ pow r (x i) k) ⊕ y ⊗ (c i ⊗ pow r (x i) k)) (λ i l. term (c i) (x i) y (pow r (x i) k))
      ∙ sum_plus g r laws n (λ i. c i ⊗ (x i ⊗ pow r (x i) k)) (λ i. y ⊗ (c i ⊗ pow r (x i) k))
      ∙ ap (λ z. syndrome g r n x c (suc k) ⊕ z) (sum-times g r laws n y (λ i. c i ⊗ pow r (x i) k))

  -- the term at p drops out: each term times the difference of its point and that of p
  abbrev pub without : (ℕ → F) → ℕ → (ℕ → F) → ℕ → F
  without x p c = λ i. c i ⊗ (x i ⊕ minus (x p))

  without_within : (n : ℕ) (x : ℕ → F) (p : ℕ) (ps : List ℕ) (c : ℕ → F) → Within g n c (p ∷ ps) → Within g n (without x p c) ps
  without_within n x p ps c w i l = go (w i l)
    where
      go : (c i ≡ 𝟎) ⊎ ((i ≡ p) ⊎ Among i ps) → (without x p c i ≡ 𝟎) ⊎ Among i ps
      go (inl e) = inl (ap (λ z. z ⊗ (x i ⊕ minus (x p))) e ∙ zero-times g r laws (x i ⊕ minus (x p)))
      go (inr (inl e)) = inl (ap (λ z. c i ⊗ z) (ap (λ k. x k ⊕ minus (x p)) e ∙ adds.opposite (x p)) ∙ times_zero g r laws (c i))
      go (inr (inr a)) = inr a

  without_syndromes : (n : ℕ) (x : ℕ → F) (p m : ℕ) (c : ℕ → F) → ((k : ℕ) → k < suc m → syndrome g r n x c k ≡ 𝟎) → (k : ℕ) → k < m → syndrome g r n x (without x p c) k ≡ 𝟎
  without_syndromes n x p m c h k l =
      shifted n x c (minus (x p)) k ∙ ap₂ (λ a b. a ⊕ minus (x p) ⊗ b) (h (suc k) (omega arith)) (h k (omega arith))
      ∙ ap (λ z. 𝟎 ⊕ z) (times_zero g r laws (minus (x p))) ∙ adds.left 𝟎

  outside : (n p : ℕ) (ps : List ℕ) (c : ℕ → F) → (p < n → ⊥) → Within g n c (p ∷ ps) → Within g n c ps
  outside n p ps c h w i l = go (w i l)
    where
      go : (c i ≡ 𝟎) ⊎ ((i ≡ p) ⊎ Among i ps) → (c i ≡ 𝟎) ⊎ Among i ps
      go (inl e) = inl e
      go (inr (inl e)) = absurd (omega arith)
      go (inr (inr a)) = inr a

  -- if the terms vanish without that at p, and their sum too, they vanish
  back : (n : ℕ) (x : ℕ → F) → Apart n x → (p : ℕ) → p < n → (c : ℕ → F) → ((i : ℕ) → i < n → without x p c i ≡ 𝟎) → syndrome g r n x c 0 ≡ 𝟎 → (i : ℕ) → i < n → c i ≡ 𝟎
  back n x apart p h c d m i l = go (ℕ_discrete i p)
    where
      other : (j : ℕ) → j < n → (j ≡ p → ⊥) → c j ≡ 𝟎
      other j q ne = cancel g r laws (c j) (x j ⊕ minus (x p)) (d j q) (λ e. ne (apart j p q h (equal g r laws (x j) (x p) e)))

      last : c p ≡ 𝟎
      last =
          sym (one_right g r laws (c p))
          ∙ sym (sum_one g r laws n (λ j. c j ⊗ 𝟏) p h (λ j q ne. ap (λ z. z ⊗ 𝟏) (other j q ne) ∙ zero-times g r laws 𝟏)) ∙ m

      go : Dec (i ≡ p) → c i ≡ 𝟎
      go (yes e) = ap c e ∙ last
      go (no ne) = other i l ne

  pub all_zero : (n : ℕ) (x : ℕ → F) → Apart n x → (ps : List ℕ) (c : ℕ → F) → Within g n c ps → ((k : ℕ) → k < length ps → syndrome g r n x c k ≡ 𝟎) → (i : ℕ) → i < n → c i ≡ 𝟎
  all_zero n x apart [] c w m i l = ⊎_elim (λ e. e) (λ e. absurd e) (w i l)
  all_zero n x apart (p ∷ ps) c w m i l =
      go (λ h. all_zero n x apart ps c (outside n p ps c h w) (λ k q. m k (omega arith)) i l)
      (all_zero n x apart ps (without x p c) (without_within n x p ps c w) (without_syndromes n x p (length ps) c m)) (dec_lt p n)
    where
      go : ((p < n → ⊥) → c i ≡ 𝟎) → ((j : ℕ) → j < n → without x p c j ≡ 𝟎) → Dec (p < n) → c i ≡ 𝟎
      go f d (yes h) = back n x apart p h c d (m 0 (omega arith)) i l
      go f d (no h) = f h
