-- The laws of sums in a field.
use Rattle.std.proofs.Common.{◌≡◌, ℕ, zero, suc, ◌<◌, ◌⊎◌, sym, refl, ap, ◌∙◌, ap₂, inl, inr, le_of_suc-le-suc, not-suc-le-zero, eq-or-lt_of_le, arith}
use Rattle.field.specs.Laws.{Group, Ring, FieldLaws}
use Rattle.field.specs.Sums.{sum}
use Rattle.field.proofs.Algebra.{add_zero, times_zero, swapped}

pub sum_same : {F : Type 0} (g : Group F) (n : ℕ) (f h : ℕ → F) → ((i : ℕ) → i < n → f i ≡ h i) → sum g n f ≡ sum g n h
sum_same g zero f h e = refl
sum_same g (suc n) f h e = ap₂ g.plus (sum_same g n f h (λ i l. e i (omega arith))) (e n (omega arith))

module _ {F : Type 0} (g : Group F) (r : Ring F) (laws : FieldLaws g r) where
  infixl 60 ◌⊕◌
  infixl 70 ◌⊗◌
  open g use {zero as 𝟎, plus as ◌⊕◌}
  open r use {times as ◌⊗◌}
  open laws use {adds}

  pub sum_plus : (n : ℕ) (f h : ℕ → F) → sum g n (λ i. f i ⊕ h i) ≡ sum g n f ⊕ sum g n h
  sum_plus zero f h = sym (adds.left 𝟎)
  sum_plus (suc n) f h = ap (λ x. x ⊕ (f n ⊕ h n)) (sum_plus n f h) ∙ swapped g r laws (sum g n f) (sum g n h) (f n) (h n)

  pub sum-times : (n : ℕ) (a : F) (f : ℕ → F) → sum g n (λ i. a ⊗ f i) ≡ a ⊗ sum g n f
  sum-times zero a f = sym (times_zero g r laws a)
  sum-times (suc n) a f = ap (λ x. x ⊕ a ⊗ f n) (sum-times n a f) ∙ sym (laws.spread a (sum g n f) (f n))

  pub sum-zero : (n : ℕ) (f : ℕ → F) → ((i : ℕ) → i < n → f i ≡ 𝟎) → sum g n f ≡ 𝟎
  sum-zero zero f e = refl
  sum-zero (suc n) f e = ap₂ (λ a b. a ⊕ b) (sum-zero n f (λ i l. e i (omega arith))) (e n (omega arith)) ∙ adds.left 𝟎

  -- a sum in which only one term is not zero
  pub sum_one : (n : ℕ) (f : ℕ → F) (p : ℕ) → p < n → ((i : ℕ) → i < n → (i ≡ p → ⊥) → f i ≡ 𝟎) → sum g n f ≡ f p
  sum_one zero f p l e = absurd (not-suc-le-zero l)
  sum_one (suc n) f p l e = go (λ q. sum_one n f p q (λ i k. e i (omega arith))) (eq-or-lt_of_le (le_of_suc-le-suc l))
    where
      go : (p < n → sum g n f ≡ f p) → (p ≡ n) ⊎ (p < n) → sum g (suc n) f ≡ f p
      go ih (inl q) =
          ap (λ x. x ⊕ f n) (sum-zero n f (λ i k. e i (omega arith) (λ z. (omega arith)))) ∙ adds.left (f n) ∙ ap f (sym q)
      go ih (inr q) = ap₂ (λ a b. a ⊕ b) (ih q) (e n (omega arith) (λ z. (omega arith))) ∙ add_zero g r laws (f p)

  -- two sums change places
  pub sum_swap : (m n : ℕ) (f : ℕ → ℕ → F) → sum g n (λ j. sum g m (λ i. f i j)) ≡ sum g m (λ i. sum g n (λ j. f i j))
  sum_swap m zero f = sym (sum-zero m (λ i. 𝟎) (λ i l. refl))
  sum_swap m (suc n) f = ap (λ z. z ⊕ sum g m (λ i. f i n)) (sum_swap m n f) ∙ sym (sum_plus m (λ i. sum g n (λ j. f i j)) (λ i. f i n))

  -- the first term apart
  pub sum_first : (n : ℕ) (f : ℕ → F) → sum g (suc n) f ≡ f 0 ⊕ sum g n (λ i. f (suc i))
  sum_first zero f = adds.comm 𝟎 (f 0)
  sum_first (suc n) f = ap (λ x. x ⊕ f (suc n)) (sum_first n f) ∙ adds.assoc (f 0) (sum g n (λ i. f (suc i))) (f (suc n))
