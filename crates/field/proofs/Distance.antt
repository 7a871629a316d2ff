-- Distance: the errors of a word against a codeword, and that codewords which differ in few places are equal.
use Rattle.std.proofs.Common.{◌≡◌, ℕ, ◌<◌, ◌≤◌, ◌⊎◌, List, length, sym, ap, ◌∙◌, inl, inr, ⊎_elim, arith}
use Rattle.field.specs.Laws.{Group, Ring, FieldLaws}
use Rattle.field.specs.Sums.{pow, syndrome}
use Rattle.field.specs.Places.{Among, Within, Apart}
use Rattle.field.proofs.Algebra.{add_zero, equal, spread_right}
use Rattle.field.proofs.Sums.{sum_same, sum_plus}
use Rattle.field.proofs.Vandermonde.{all_zero}

module _ {F : Type 0} (g : Group F) (r : Ring F) (laws : FieldLaws g r) where
  infixl 60 ◌⊕◌
  infixl 70 ◌⊗◌
  open g use {zero as 𝟎, plus as ◌⊕◌, minus}
  open r use {times as ◌⊗◌}
  open laws use {adds}

  -- w = c + (w - c)
  apart_sum : (w c : F) → w ≡ c ⊕ (w ⊕ minus c)
  apart_sum w c =
      sym (add_zero g r laws w) ∙ ap (λ z. w ⊕ z) (sym (adds.opposite c)) ∙ sym (adds.assoc w c (minus c)) ∙ ap (λ z. z ⊕ minus c) (adds.comm w c) ∙ adds.assoc c w (minus c)

  -- the errors w - c of a word w, where c is a word whose first m syndromes are zero
  module _ (n m : ℕ) (x w c : ℕ → F) (code : (k : ℕ) → k < m → syndrome g r n x c k ≡ 𝟎) where
    pub error : ℕ → F
    error i = w i ⊕ minus (c i)

    pub error_syndrome : (k : ℕ) → k < m → syndrome g r n x w k ≡ syndrome g r n x error k
    unfolding error
    error_syndrome k l =
        sum_same g n (λ i. w i ⊗ pow r (x i) k) (λ i. c i ⊗ pow r (x i) k ⊕ error i ⊗ pow r (x i) k)
        (λ i q. ap (λ z. z ⊗ pow r (x i) k) (apart_sum (w i) (c i)) ∙ spread_right g r laws (c i) (w i ⊕ minus (c i)) (pow r (x i) k))
        ∙ sum_plus g r laws n (λ i. c i ⊗ pow r (x i) k) (λ i. error i ⊗ pow r (x i) k)
        ∙ ap (λ z. z ⊕ syndrome g r n x error k) (code k l) ∙ adds.left (syndrome g r n x error k)

    pub error_back : (k : ℕ) → w k ⊕ minus (error k) ≡ c k
    unfolding error
    error_back k =
        ap (λ z. z ⊕ minus (w k ⊕ minus (c k))) (apart_sum (w k) (c k)) ∙ adds.assoc (c k) (w k ⊕ minus (c k)) (minus (w k ⊕ minus (c k)))
        ∙ ap (λ z. c k ⊕ z) (adds.opposite (w k ⊕ minus (c k))) ∙ add_zero g r laws (c k)

    pub error_zero : (k : ℕ) → error k ≡ 𝟎 → w k ≡ c k
    unfolding error
    error_zero k e = equal g r laws (w k) (c k) e

    pub errors_within : (qs : List ℕ) → ((i : ℕ) → i < n → (w i ≡ c i) ⊎ Among i qs) → Within g n error qs
    unfolding error
    errors_within qs near k q = ⊎_elim (λ e. inl (ap (λ z. z ⊕ minus (c k)) e ∙ adds.opposite (c k))) (λ a. inr a) (near k q)

    -- w is a codeword too: it is c
    pub codewords_equal : Apart n x → ((k : ℕ) → k < m → syndrome g r n x w k ≡ 𝟎) → (qs : List ℕ) → length qs ≤ m → ((i : ℕ) → i < n → (w i ≡ c i) ⊎ Among i qs) → (i : ℕ) → i < n → w i ≡ c i
    codewords_equal apart also qs few near i l =
        error_zero i (all_zero g r laws n x apart qs error (errors_within qs near) (λ k q. sym (error_syndrome k (omega arith)) ∙ also k (omega arith)) i l)
