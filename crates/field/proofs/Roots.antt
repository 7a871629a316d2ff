-- Root counting: a monic polynomial of degree d has at most d roots.
use Rattle.std.proofs.Common.{◌≡◌, ℕ, zero, suc, ◌+◌, ◌<◌, ◌≤◌, ◌⊎◌, List, [], ◌∷◌, length, sym, refl, ap, ◌∙◌, ap₂, inl, inr, ⊎_elim, zero-add, arith}
use native.Mathlib.Decide.{ℕ_discrete, dec_lt}
use Rattle.field.specs.Laws.{Group, Ring, FieldLaws}
use Rattle.field.specs.Sums.{pow, syndrome, polynomial}
use Rattle.field.specs.Places.{Among, Distinct, Below, Within, Apart}
use Rattle.field.proofs.Algebra.{zero-times, times_zero, one_right, add_zero, spread_right, equal}
use Rattle.field.proofs.Sums.{sum_same, sum_plus, sum-zero, sum_one}
use Rattle.field.proofs.Vandermonde.{without, shifted}
use Rattle.field.proofs.Locator.{applied_syndromes}

module _ {F : Type 0} (g : Group F) (r : Ring F) (laws : FieldLaws g r) where
  infixl 60 ◌⊕◌
  infixl 70 ◌⊗◌
  open g use {zero as 𝟎, plus as ◌⊕◌, minus}
  open r use {one as 𝟏, times as ◌⊗◌, over}
  open laws use {adds}

  abbrev pick : {P : Type 0} → F → Dec P → F
  pick t (yes e) = t
  pick t (no e) = 𝟎

  -- t at the place p, and zero elsewhere
  only : ℕ → F → ℕ → F
  only p t i = pick t (ℕ_discrete i p)

  only_same : (p : ℕ) (t : F) → only p t p ≡ t
  unfolding only
  only_same p t = go (ℕ_discrete p p)
    where
      go : (d : Dec (p ≡ p)) → pick t d ≡ t
      go (yes e) = refl
      go (no e) = absurd (e refl)

  only_other : (p : ℕ) (t : F) (i : ℕ) → (i ≡ p → ⊥) → only p t i ≡ 𝟎
  unfolding only
  only_other p t i h = go (ℕ_discrete i p)
    where
      go : (d : Dec (i ≡ p)) → pick t d ≡ 𝟎
      go (yes e) = absurd (h e)
      go (no e) = refl

  only_syndrome : (n : ℕ) (x : ℕ → F) (p : ℕ) (t : F) → p < n → syndrome g r n x (only p t) 0 ≡ t
  only_syndrome n x p t h =
      sum_one g r laws n (λ i. only p t i ⊗ 𝟏) p h (λ i l ne. ap (λ z. z ⊗ 𝟏) (only_other p t i ne) ∙ zero-times g r laws 𝟏)
      ∙ one_right g r laws (only p t p) ∙ only_same p t

  -- terms at the places ps whose first syndromes are zero, but for the last, which is one
  pub record Weights (n : ℕ) (x : ℕ → F) (ps : List ℕ) : Type 0 where
    pub c : ℕ → F
    pub within : Within g n c ps
    pub lower : (k : ℕ) → k + 1 < length ps → syndrome g r n x c k ≡ 𝟎
    pub top : (k : ℕ) → k + 1 ≡ length ps → syndrome g r n x c k ≡ 𝟏

  first : (n : ℕ) (x : ℕ → F) (q : ℕ) → q < n → Weights n x (q ∷ [])
  first n x q h = record {
    c = only q 𝟏;
    within = λ i l. near i (ℕ_discrete i q);
    lower = λ k l. absurd (omega arith);
    top = λ k e. ap (syndrome g r n x (only q 𝟏)) (let z : k ≡ 0 = omega arith in z) ∙ only_syndrome n x q 𝟏 h;
  }
    where
      near : (i : ℕ) → Dec (i ≡ q) → (only q 𝟏 i ≡ 𝟎) ⊎ ((i ≡ q) ⊎ ⊥)
      near i (yes e) = inr (inl e)
      near i (no e) = inl (only_other q 𝟏 i e)

  module _ (n : ℕ) (x : ℕ → F) (apart : Apart n x) (p : ℕ) (pn : p < n) (c : ℕ → F) (cp : c p ≡ 𝟎) where
    gap : ℕ → F
    gap i = x i ⊕ minus (x p)

    part : ℕ → F
    part i = c i ⊗ over (gap i)

    rest : F
    rest = minus (syndrome g r n x part 0)

    more : ℕ → F
    more i = part i ⊕ only p rest i

    more_zero : syndrome g r n x more 0 ≡ 𝟎
    unfolding more rest
    more_zero =
        sum_same g n (λ i. (part i ⊕ only p rest i) ⊗ 𝟏) (λ i. part i ⊗ 𝟏 ⊕ only p rest i ⊗ 𝟏) (λ i l. spread_right g r laws (part i) (only p rest i) 𝟏)
        ∙ sum_plus g r laws n (λ i. part i ⊗ 𝟏) (λ i. only p rest i ⊗ 𝟏) ∙ ap (λ z. syndrome g r n x part 0 ⊕ z) (only_syndrome n x p rest pn) ∙ adds.opposite (syndrome g r n x part 0)

    without_more : (i : ℕ) → i < n → without g r laws x p more i ≡ c i
    unfolding more part gap
    without_more i l = go (ℕ_discrete i p)
      where
        go : Dec (i ≡ p) → (part i ⊕ only p rest i) ⊗ (x i ⊕ minus (x p)) ≡ c i
        go (yes e) = ap (λ z. (part i ⊕ only p rest i) ⊗ z) (ap (λ j. x j ⊕ minus (x p)) e ∙ adds.opposite (x p)) ∙ times_zero g r laws (part i ⊕ only p rest i) ∙ sym (ap c e ∙ cp)
        go (no e) =
            ap (λ z. (part i ⊕ z) ⊗ gap i) (only_other p rest i e) ∙ ap (λ z. z ⊗ gap i) (add_zero g r laws (part i)) ∙ laws.assoc (c i) (over (gap i)) (gap i)
            ∙ ap (λ z. c i ⊗ z) (laws.comm (over (gap i)) (gap i) ∙ laws.inverse (gap i) (λ q. e (apart i p l pn (equal g r laws (x i) (x p) q)))) ∙ one_right g r laws (c i)

    climbs : (k : ℕ) → syndrome g r n x more k ≡ 𝟎 → syndrome g r n x more (suc k) ≡ syndrome g r n x c k
    climbs k e =
        sym (add_zero g r laws (syndrome g r n x more (suc k))) ∙ ap (λ z. syndrome g r n x more (suc k) ⊕ z) (sym (ap (λ z. minus (x p) ⊗ z) e ∙ times_zero g r laws (minus (x p))))
        ∙ sym (shifted g r laws n x more (minus (x p)) k)
        ∙ sum_same g n (λ i. without g r laws x p more i ⊗ pow r (x i) k) (λ i. c i ⊗ pow r (x i) k) (λ i l. ap (λ z. z ⊗ pow r (x i) k) (without_more i l))

    more_lower : (m : ℕ) → ((k : ℕ) → k + 1 < m → syndrome g r n x c k ≡ 𝟎) → (k : ℕ) → k + 1 < suc m → syndrome g r n x more k ≡ 𝟎
    more_lower m h zero l = more_zero
    more_lower m h (suc k) l = climbs k (more_lower m h k (omega arith)) ∙ h k (omega arith)

    more_top : (m : ℕ) → 0 < m → ((k : ℕ) → k + 1 < m → syndrome g r n x c k ≡ 𝟎) → ((k : ℕ) → k + 1 ≡ m → syndrome g r n x c k ≡ 𝟏) → (k : ℕ) → k + 1 ≡ suc m → syndrome g r n x more k ≡ 𝟏
    more_top m pos h t zero e = absurd (omega arith)
    more_top m pos h t (suc k) e = climbs k (more_lower m h k (omega arith)) ∙ t k (omega arith)

    more_within : (ps : List ℕ) → Within g n c ps → Within g n more (p ∷ ps)
    unfolding more part
    more_within ps w i l = go (ℕ_discrete i p) (w i l)
      where
        go : Dec (i ≡ p) → (c i ≡ 𝟎) ⊎ Among i ps → (part i ⊕ only p rest i ≡ 𝟎) ⊎ ((i ≡ p) ⊎ Among i ps)
        go (yes e) q = inr (inl e)
        go (no e) (inl q) = inl (ap₂ (λ a b. a ⊕ b) (ap (λ z. z ⊗ over (gap i)) q ∙ zero-times g r laws (over (gap i))) (only_other p rest i e) ∙ adds.left 𝟎)
        go (no e) (inr a) = inr (inr a)

  pub weights : (n : ℕ) (x : ℕ → F) → Apart n x → (q : ℕ) (ps : List ℕ) → Distinct (q ∷ ps) → Below n (q ∷ ps) → Weights n x (q ∷ ps)
  weights n x apart q [] d b = first n x q b.0
  weights n x apart q (p ∷ ps) d b = go (weights n x apart p ps d.1 b.1)
    where
      go : Weights n x (p ∷ ps) → Weights n x (q ∷ p ∷ ps)
      go w =
          let cq : w.c q ≡ 𝟎 = ⊎_elim (λ e. e) (λ a. absurd (d.0 a)) (w.within q b.0) in
          record {
            c = more n x apart q b.0 w.c cq;
            within = more_within n x apart q b.0 w.c cq (p ∷ ps) w.within;
            lower = more_lower n x apart q b.0 w.c cq (suc (length ps)) w.lower;
            top = more_top n x apart q b.0 w.c cq (suc (length ps)) (omega arith) w.lower w.top;
          }

  pub few_roots : (n D d : ℕ) (x v : ℕ → F) → Apart n x → d < D → v d ≡ 𝟏 → ((j : ℕ) → d < j → v j ≡ 𝟎) → (ps : List ℕ) → Distinct ps → Below n ps → ((p : ℕ) → Among p ps → polynomial g r D v (x p) ≡ 𝟎) → length ps ≤ d
  few_roots n D d x v apart dd lead above [] ds b roots = omega arith
  few_roots n D d x v apart dd lead above (p ∷ ps) ds b roots = go (few_roots n D d x v apart dd lead above ps ds.1 b.1 (λ q a. roots q (inr a))) (dec_lt d (suc (length ps)))
    where
      wrong : length ps ≡ d → Weights n x (p ∷ ps) → 𝟏 ≡ 𝟎
      wrong e w =
          sym (laws.left 𝟏) ∙ sym (ap₂ (λ a b. a ⊗ b) lead (ap (syndrome g r n x w.c) (zero-add d) ∙ w.top d (omega arith)))
          ∙ sym (sum_one g r laws D (λ j. v j ⊗ syndrome g r n x w.c (0 + j)) d dd other)
          ∙ applied_syndromes g r laws n D x w.c v 0
          ∙ sum-zero g r laws n (λ i. (w.c i ⊗ polynomial g r D v (x i)) ⊗ 𝟏) gone
        where
          other : (j : ℕ) → j < D → (j ≡ d → ⊥) → v j ⊗ syndrome g r n x w.c (0 + j) ≡ 𝟎
          other j l ne = side (dec_lt j d)
            where
              side : Dec (j < d) → v j ⊗ syndrome g r n x w.c (0 + j) ≡ 𝟎
              side (yes q) = ap (λ z. v j ⊗ z) (ap (syndrome g r n x w.c) (zero-add j) ∙ w.lower j (omega arith)) ∙ times_zero g r laws (v j)
              side (no q) = ap (λ z. z ⊗ syndrome g r n x w.c (0 + j)) (above j (omega arith)) ∙ zero-times g r laws (syndrome g r n x w.c (0 + j))

          gone : (i : ℕ) → i < n → (w.c i ⊗ polynomial g r D v (x i)) ⊗ 𝟏 ≡ 𝟎
          gone i l =
              ap (λ z. z ⊗ 𝟏)
              (⊎_elim (λ q. ap (λ z. z ⊗ polynomial g r D v (x i)) q ∙ zero-times g r laws (polynomial g r D v (x i)))
              (λ a. ap (λ z. w.c i ⊗ z) (roots i a) ∙ times_zero g r laws (w.c i)) (w.within i l))
              ∙ zero-times g r laws 𝟏

      go : length ps ≤ d → Dec (d < suc (length ps)) → suc (length ps) ≤ d
      go h (yes q) = absurd (laws.proper (wrong (let e : length ps ≡ d = omega arith in e) (weights n x apart p ps ds b)))
      go h (no q) = omega arith
