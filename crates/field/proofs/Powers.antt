-- The laws of powers in a field.
use Rattle.std.proofs.Common.{◌≡◌, ℕ, zero, suc, ◌+◌, sym, refl, ap, ◌∙◌, suc-add, zero-add}
use Rattle.field.specs.Laws.{Group, Ring, FieldLaws}
use Rattle.field.specs.Sums.{pow}
use Rattle.field.proofs.Algebra.{times_left}

module _ {F : Type 0} (g : Group F) (r : Ring F) (laws : FieldLaws g r) where
  infixl 70 ◌⊗◌
  open r use {one as 𝟏, times as ◌⊗◌}

  pub pow_add : (x : F) (k j : ℕ) → pow r x (k + j) ≡ pow r x k ⊗ pow r x j
  pow_add x zero j = ap (pow r x) (zero-add j) ∙ sym (laws.left (pow r x j))
  pow_add x (suc k) j = ap (pow r x) (suc-add k j) ∙ ap (λ z. x ⊗ z) (pow_add x k j) ∙ sym (laws.assoc x (pow r x k) (pow r x j))

  pub pow-times : (x y : F) (k : ℕ) → pow r (x ⊗ y) k ≡ pow r x k ⊗ pow r y k
  pow-times x y zero = sym (laws.left 𝟏)
  pow-times x y (suc k) =
      ap (λ z. (x ⊗ y) ⊗ z) (pow-times x y k) ∙ laws.assoc x y (pow r x k ⊗ pow r y k) ∙ ap (λ z. x ⊗ z) (times_left g r laws y (pow r x k) (pow r y k)) ∙ sym (laws.assoc x (pow r x k) (y ⊗ pow r y k))

  pub pow_one : (k : ℕ) → pow r 𝟏 k ≡ 𝟏
  pow_one zero = refl
  pow_one (suc k) = laws.left (pow r 𝟏 k) ∙ pow_one k

  pub pow_swap : (x : F) (a b : ℕ) → pow r (pow r x a) b ≡ pow r (pow r x b) a
  pow_swap x a zero = sym (pow_one a)
  pow_swap x a (suc b) = ap (λ z. pow r x a ⊗ z) (pow_swap x a b) ∙ sym (pow-times x (pow r x b) a)
