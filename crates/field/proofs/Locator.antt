-- The locator argument: a polynomial that turns the syndromes to zero is zero at the point of each term.
use Rattle.std.proofs.Common.{◌≡◌, ℕ, ◌+◌, ◌<◌, ◌≤◌, List, length, sym, ap, ◌∙◌, inl, inr, ⊎_elim, arith}
use Rattle.field.specs.Laws.{Group, Ring, FieldLaws}
use Rattle.field.specs.Sums.{sum, pow, syndrome, polynomial}
use Rattle.field.specs.Places.{Within, Apart}
use Rattle.field.proofs.Algebra.{zero-times, times_left}
use Rattle.field.proofs.Sums.{sum_same, sum-times, sum_swap}
use Rattle.field.proofs.Powers.{pow_add}
use Rattle.field.proofs.Vandermonde.{all_zero}

module _ {F : Type 0} (g : Group F) (r : Ring F) (laws : FieldLaws g r) where
  infixl 70 ◌⊗◌
  open g use {zero as 𝟎}
  open r use {times as ◌⊗◌}

  -- v_j (e x^(k+j)) = (e (v_j x^j)) x^k, summed
  pub applied_syndromes : (n d : ℕ) (x e v : ℕ → F) (k : ℕ) → sum g d (λ j. v j ⊗ syndrome g r n x e (k + j)) ≡ syndrome g r n x (λ i. e i ⊗ polynomial g r d v (x i)) k
  applied_syndromes n d x e v k =
      sum_same g d (λ j. v j ⊗ syndrome g r n x e (k + j)) (λ j. sum g n (λ i. v j ⊗ (e i ⊗ pow r (x i) (k + j)))) (λ j l. sym (sum-times g r laws n (v j) (λ i. e i ⊗ pow r (x i) (k + j))))
      ∙ sum_swap g r laws n d (λ i j. v j ⊗ (e i ⊗ pow r (x i) (k + j)))
      ∙ sum_same g n (λ i. sum g d (λ j. v j ⊗ (e i ⊗ pow r (x i) (k + j)))) (λ i. (e i ⊗ polynomial g r d v (x i)) ⊗ pow r (x i) k) (λ i l. inner (e i) (x i))
    where
      each : (a w p q : F) → w ⊗ (a ⊗ (p ⊗ q)) ≡ (p ⊗ a) ⊗ (w ⊗ q)
      each a w p q =
          ap (λ z. w ⊗ z) (times_left g r laws a p q ∙ sym (laws.assoc p a q)) ∙ times_left g r laws w (p ⊗ a) q

      inner : (a y : F) → sum g d (λ j. v j ⊗ (a ⊗ pow r y (k + j))) ≡ (a ⊗ polynomial g r d v y) ⊗ pow r y k
      inner a y =
          sum_same g d (λ j. v j ⊗ (a ⊗ pow r y (k + j))) (λ j. (pow r y k ⊗ a) ⊗ (v j ⊗ pow r y j))
          (λ j l. ap (λ z. v j ⊗ (a ⊗ z)) (pow_add g r laws y k j) ∙ each a (v j) (pow r y k) (pow r y j))
          ∙ sum-times g r laws d (pow r y k ⊗ a) (λ j. v j ⊗ pow r y j)
          ∙ laws.assoc (pow r y k) a (polynomial g r d v y) ∙ laws.comm (pow r y k) (a ⊗ polynomial g r d v y)

  -- a polynomial that turns as many syndromes to zero as there are terms vanishes where a term does not
  pub located : (n d t : ℕ) (x e v : ℕ → F) → Apart n x → (ps : List ℕ) → Within g n e ps → length ps ≤ t
      → ((k : ℕ) → k < t → sum g d (λ j. v j ⊗ syndrome g r n x e (k + j)) ≡ 𝟎) → (i : ℕ) → i < n → e i ⊗ polynomial g r d v (x i) ≡ 𝟎
  located n d t x e v apart ps w len h =
      all_zero g r laws n x apart ps (λ i. e i ⊗ polynomial g r d v (x i)) within (λ k l. sym (applied_syndromes n d x e v k) ∙ h k (omega arith))
    where
      within : Within g n (λ i. e i ⊗ polynomial g r d v (x i)) ps
      within i l = ⊎_elim (λ q. inl (ap (λ z. z ⊗ polynomial g r d v (x i)) q ∙ zero-times g r laws (polynomial g r d v (x i)))) (λ a. inr a) (w i l)
