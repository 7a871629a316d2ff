-- Values of words, the highest coefficient first: one symbol more, two words joined, and the step of a shift register.
use Rattle.std.proofs.Common.{◌≡◌, ℕ, zero, suc, ◌+◌, ◌-◌, ◌<◌, sym, ap, ◌∙◌, ap₂, add-zero, add-suc, arith}
use Rattle.field.specs.Laws.{Group, Ring, FieldLaws}
use Rattle.field.specs.Sums.{sum, pow, syndrome, word_value}
use Rattle.field.proofs.Algebra.{one_right, spread_right, times_left, add_left_cancel}
use Rattle.field.proofs.Algebra as algebra
use Rattle.field.proofs.Sums.{sum_same, sum_plus, sum-times, sum_first}
use Rattle.field.proofs.Powers.{pow_swap}

pub value_same : {F : Type 0} (g : Group F) (r : Ring F) (n : ℕ) (c d : ℕ → F) (x : F) → ((i : ℕ) → i < n → c i ≡ d i) → word_value g r n c x ≡ word_value g r n d x
unfolding word_value
value_same g r n c d x e =
    sum_same g n (λ i. r.times (c i) (pow r x (n - 1 - i))) (λ i. r.times (d i) (pow r x (n - 1 - i))) (λ i l. ap (λ z. r.times z (pow r x (n - 1 - i))) (e i l))

module _ {F : Type 0} (g : Group F) (r : Ring F) (laws : FieldLaws g r) where
  infixl 60 ◌⊕◌
  infixl 70 ◌⊗◌
  open g use {zero as 𝟎, plus as ◌⊕◌}
  open r use {times as ◌⊗◌}
  open laws use {adds}

  -- one symbol more
  pub value_next : (n : ℕ) (c : ℕ → F) (x : F) → word_value g r n c x ⊗ x ⊕ c n ≡ word_value g r (suc n) c x
  unfolding word_value
  value_next n c x =
      ap₂ (λ a b. a ⊕ b)
      (laws.comm (sum g n (λ i. c i ⊗ pow r x (n - 1 - i))) x ∙ sym (sum-times g r laws n x (λ i. c i ⊗ pow r x (n - 1 - i)))
      ∙ sum_same g n (λ i. x ⊗ (c i ⊗ pow r x (n - 1 - i))) (λ i. c i ⊗ pow r x (suc n - 1 - i)) moved)
      (sym (one_right g r laws (c n)) ∙ ap (λ k. c n ⊗ pow r x k) (let e : 0 ≡ suc n - 1 - n = omega arith in e))
    where
      moved : (i : ℕ) → i < n → x ⊗ (c i ⊗ pow r x (n - 1 - i)) ≡ c i ⊗ pow r x (suc n - 1 - i)
      moved i l =
          times_left g r laws x (c i) (pow r x (n - 1 - i)) ∙ ap (λ k. c i ⊗ pow r x k) (let e : suc (n - 1 - i) ≡ suc n - 1 - i = omega arith in e)

  -- a word of p symbols and n more
  pub value-joined : (p n : ℕ) (c : ℕ → F) (x : F) → word_value g r (p + n) c x ≡ word_value g r p c x ⊗ pow r x n ⊕ word_value g r n (λ j. c (p + j)) x
  unfolding word_value
  value-joined p zero c x =
      ap (λ m. word_value g r m c x) (add-zero p) ∙ sym (ap (λ z. z ⊕ 𝟎) (one_right g r laws (word_value g r p c x)) ∙ algebra.add_zero g r laws (word_value g r p c x))
  value-joined p (suc n) c x =
      ap (λ m. word_value g r m c x) (add-suc p n) ∙ sym (value_next (p + n) c x) ∙ ap (λ z. z ⊗ x ⊕ c (p + n)) (value-joined p n c x)
      ∙ ap (λ z. z ⊕ c (p + n)) (spread_right g r laws (front ⊗ pow r x n) rest x ∙ ap (λ z. z ⊕ rest ⊗ x) (laws.assoc front (pow r x n) x ∙ ap (λ z. front ⊗ z) (laws.comm (pow r x n) x)))
      ∙ adds.assoc (front ⊗ (x ⊗ pow r x n)) (rest ⊗ x) (c (p + n)) ∙ ap (λ z. front ⊗ (x ⊗ pow r x n) ⊕ z) (value_next n (λ j. c (p + j)) x)
    where
      front : F
      front = word_value g r p c x

      rest : F
      rest = word_value g r n (λ j. c (p + j)) x

  -- the first symbol apart
  value_first : (n : ℕ) (c : ℕ → F) (x : F) → word_value g r (suc n) c x ≡ c 0 ⊗ pow r x n ⊕ word_value g r n (λ j. c (suc j)) x
  unfolding word_value
  value_first n c x =
      sum_first g r laws n (λ i. c i ⊗ pow r x (suc n - 1 - i))
      ∙ ap₂ (λ a b. a ⊕ b) (ap (λ k. c 0 ⊗ pow r x k) (let e : suc n - 1 - 0 ≡ n = omega arith in e))
      (sum_same g n (λ j. c (suc j) ⊗ pow r x (suc n - 1 - suc j)) (λ j. c (suc j) ⊗ pow r x (n - 1 - j))
      (λ j l. ap (λ k. c (suc j) ⊗ pow r x k) (let e : suc n - 1 - suc j ≡ n - 1 - j = omega arith in e)))

  value-sum : (n : ℕ) (c d : ℕ → F) (f x : F) → word_value g r n (λ j. c j ⊕ f ⊗ d j) x ≡ word_value g r n c x ⊕ f ⊗ word_value g r n d x
  unfolding word_value
  value-sum n c d f x =
      sum_same g n (λ j. (c j ⊕ f ⊗ d j) ⊗ p j) (λ j. c j ⊗ p j ⊕ f ⊗ (d j ⊗ p j)) (λ j l. spread_right g r laws (c j) (f ⊗ d j) (p j) ∙ ap (λ z. c j ⊗ p j ⊕ z) (laws.assoc f (d j) (p j)))
      ∙ sum_plus g r laws n (λ j. c j ⊗ p j) (λ j. f ⊗ (d j ⊗ p j)) ∙ ap (λ z. sum g n (λ j. c j ⊗ p j) ⊕ z) (sum-times g r laws n f (λ j. d j ⊗ p j))
    where
      p : ℕ → F
      p j = pow r x (n - 1 - j)

  -- A register c of n symbols takes in the symbol m: it shifts, and the sum of m and its first symbol goes to the taps q.
  -- Where the taps stand for x^n, its value is multiplied by x and grows by m x^n.
  pub register_step : (n : ℕ) (c d q : ℕ → F) (m x : F) → c n ≡ 𝟎 → ((j : ℕ) → j < n → d j ≡ c (suc j) ⊕ (m ⊕ c 0) ⊗ q j) → word_value g r n q x ≡ pow r x n
      → word_value g r n d x ≡ word_value g r n c x ⊗ x ⊕ m ⊗ pow r x n
  register_step n c d q m x last step taps =
      add_left_cancel g r laws (c 0 ⊗ pow r x n) (word_value g r n d x) (v ⊗ x ⊕ m ⊗ pow r x n)
      (ap (λ z. c 0 ⊗ pow r x n ⊕ z) (value_same g r n d (λ j. c (suc j) ⊕ (m ⊕ c 0) ⊗ q j) x step ∙ value-sum n (λ j. c (suc j)) q (m ⊕ c 0) x ∙ ap (λ z. rest ⊕ (m ⊕ c 0) ⊗ z) taps)
      ∙ sym (adds.assoc (c 0 ⊗ pow r x n) rest ((m ⊕ c 0) ⊗ pow r x n))
      ∙ ap₂ (λ a b. a ⊕ b) (sym (value_first n c x) ∙ sym (value_next n c x) ∙ ap (λ z. v ⊗ x ⊕ z) last ∙ algebra.add_zero g r laws (v ⊗ x)) (spread_right g r laws m (c 0) (pow r x n))
      ∙ sym (adds.assoc (v ⊗ x) (m ⊗ pow r x n) (c 0 ⊗ pow r x n)) ∙ adds.comm (v ⊗ x ⊕ m ⊗ pow r x n) (c 0 ⊗ pow r x n))
    where
      v : F
      v = word_value g r n c x

      rest : F
      rest = word_value g r n (λ j. c (suc j)) x

  -- the syndrome k of a word at the points x^(n-1), .., x, 1 is its value at x^k
  pub syndrome-value : (n : ℕ) (c points : ℕ → F) (x : F) (k : ℕ) → ((i : ℕ) → i < n → points i ≡ pow r x (n - 1 - i)) → syndrome g r n points c k ≡ word_value g r n c (pow r x k)
  unfolding word_value
  syndrome-value n c points x k at =
      sum_same g n (λ i. c i ⊗ pow r (points i) k) (λ i. c i ⊗ pow r (pow r x k) (n - 1 - i))
      (λ i l. ap (λ z. c i ⊗ z) (ap (λ z. pow r z k) (at i l) ∙ pow_swap g r laws x (n - 1 - i) k))
