-- The evaluation of rows at many points, and that zeros above a row's degree do not count.
use Rattle.std.proofs.Common.{◌≡◌, ℕ, zero, suc, ◌+◌, ◌-◌, ◌<◌, ◌≤◌, ◌⊎◌, List, length, take, get_or, sym, refl, ap, ◌∙◌, ap₂, inl, inr, le_of_suc-le-suc, eq-or-lt_of_le, add-one, arith}
use Rattle.std.proofs.lemmas.List.{length-take-le, get_or-take}
use Rattle.field.specs.Laws.{Group, Ring, FieldLaws}
use Rattle.field.specs.Sums.{sum, pow, polynomial, word_value}
use Rattle.field.proofs.Algebra.{add_zero, zero-times}
use Rattle.field.proofs.Sums.{sum_same, sum_first}
use Rattle.field.proofs.WordValues.{value_next}
use Rattle.decoder.specs.Words.{row_value, Stepped, Values, falling, Monic}
use Rattle.decoder.specs.Errors.{Found}

module _ {F : Type 0} (g : Group F) (r : Ring F) (laws : FieldLaws g r) where
  infixl 60 ◌⊕◌
  infixl 70 ◌⊗◌
  open g use {zero as 𝟎, plus as ◌⊕◌}
  open r use {times as ◌⊗◌}
  open laws use {adds}

  pub values_none : (c : ℕ → F) (xs ys : List F) (m n : ℕ) → m ≤ n → ((k : ℕ) → k < n → get_or ys k 𝟎 ≡ 𝟎) → Values g r c 0 xs m ys
  unfolding word_value
  values_none c xs ys m n s h i l = h i (omega arith)

  -- one coefficient more
  pub values_next : (c : ℕ → F) (xs old new : List F) (a : F) (m n : ℕ) → Values g r c n xs m old → a ≡ c n → Stepped g r old xs a m new → Values g r c (n + 1) xs m new
  values_next c xs old new a m n h e s i l =
      s i l ∙ ap₂ (λ y z. y ⊗ get_or xs i 𝟎 ⊕ z) (h i l) e ∙ value_next g r laws n c (get_or xs i 𝟎)
      ∙ ap (λ k. word_value g r k c (get_or xs i 𝟎)) (sym (add-one n))

  reversed : (n : ℕ) (f : ℕ → F) → sum g n (λ t. f (n - 1 - t)) ≡ sum g n f
  reversed zero f = refl
  reversed (suc n) f =
      sum_first g r laws n (λ t. f (suc n - 1 - t))
      ∙ ap₂ (λ a b. a ⊕ b) (ap f (let e : suc n - 1 - 0 ≡ n = omega arith in e))
      (sum_same g n (λ t. f (suc n - 1 - suc t)) (λ t. f (n - 1 - t)) (λ t l. ap f (let e : suc n - 1 - suc t ≡ n - 1 - t = omega arith in e)) ∙ reversed n f)
      ∙ adds.comm (f n) (sum g n f)

  -- the value of the coefficients in either order
  pub falling-value : (v : List F) (d : ℕ) (x : F) → word_value g r d (falling g v d) x ≡ row_value g r d v x
  unfolding word_value
  falling-value v d x = reversed d (λ j. get_or v j 𝟎 ⊗ pow r x j)

  low_value : (v : ℕ → F) (x : F) (d n : ℕ) → d ≤ n → ((j : ℕ) → d ≤ j → v j ≡ 𝟎) → polynomial g r d v x ≡ polynomial g r n v x
  low_value v x d zero l h = ap (λ k. polynomial g r k v x) (let e : d ≡ 0 = omega arith in e)
  low_value v x d (suc n) l h = go (λ q. low_value v x d n q h) (eq-or-lt_of_le l)
    where
      go : (d ≤ n → polynomial g r d v x ≡ polynomial g r n v x) → (d ≡ suc n) ⊎ (d < suc n) → polynomial g r d v x ≡ polynomial g r (suc n) v x
      go ih (inl e) = ap (λ k. polynomial g r k v x) e
      go ih (inr q) =
          ih (le_of_suc-le-suc q)
          ∙ sym (ap (λ z. polynomial g r n v x ⊕ z) (ap (λ z. z ⊗ pow r x n) (h n (le_of_suc-le-suc q)) ∙ zero-times g r laws (pow r x n)) ∙ add_zero g r laws (polynomial g r n v x))

  -- the roots of a row of degree d are those of its coefficients up to there
  pub found_all : (v : List F) (d n : ℕ) (xs : List F) (m : ℕ) (found : List ℕ) (count : ℕ) → Monic g r d v → d < n → n ≤ length v → Found g r (take (d + 1) v) (length (take (d + 1) v)) xs m found count → Found g r v n xs m found count
  found_all v d n xs m found count monic l long f = record {
    small = f.small;
    within = f.within;
    ascend = f.ascend;
    root = λ t h. sym (same (get_or xs (get_or found t 0) 𝟎)) ∙ f.root t h;
    all = λ i h e. f.all i h (same (get_or xs i 𝟎) ∙ e);
  }
    where
      low : List F
      low = take (d + 1) v

      same : (x : F) → row_value g r (length low) low x ≡ row_value g r n v x
      same x =
          ap (λ k. row_value g r k low x) (length-take-le (d + 1) v (omega arith))
          ∙ sum_same g (d + 1) (λ j. get_or low j 𝟎 ⊗ pow r x j) (λ j. get_or v j 𝟎 ⊗ pow r x j) (λ j h. ap (λ z. z ⊗ pow r x j) (get_or-take (d + 1) v j 𝟎 h))
          ∙ low_value (λ j. get_or v j 𝟎) x (d + 1) n (omega arith) (λ j h. monic.1 j (omega arith))
