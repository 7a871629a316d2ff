-- What follows from the laws of a field.
use Rattle.std.proofs.Common.{◌≡◌, sym, ap, ◌∙◌, ap₂}
use Rattle.field.specs.Laws.{Group, Ring, FieldLaws}

module _ {F : Type 0} (g : Group F) (r : Ring F) (laws : FieldLaws g r) where
  infixl 60 ◌⊕◌
  infixl 70 ◌⊗◌
  open g use {zero as 𝟎, plus as ◌⊕◌, minus}
  open r use {one as 𝟏, times as ◌⊗◌, over}
  open laws use {adds}

  pub add_zero : (x : F) → x ⊕ 𝟎 ≡ x
  add_zero x = adds.comm x 𝟎 ∙ adds.left x

  -- x + x = x at zero only
  pub idle : (x : F) → x ⊕ x ≡ x → x ≡ 𝟎
  idle x e =
      sym (add_zero x) ∙ ap (λ y. x ⊕ y) (sym (adds.opposite x)) ∙ sym (adds.assoc x x (minus x)) ∙ ap (λ y. y ⊕ minus x) e ∙ adds.opposite x

  pub times_zero : (x : F) → x ⊗ 𝟎 ≡ 𝟎
  times_zero x = idle (x ⊗ 𝟎) (sym (laws.spread x 𝟎 𝟎) ∙ ap (λ y. x ⊗ y) (adds.left 𝟎))

  pub zero-times : (x : F) → 𝟎 ⊗ x ≡ 𝟎
  zero-times x = laws.comm 𝟎 x ∙ times_zero x

  pub one_right : (x : F) → x ⊗ 𝟏 ≡ x
  one_right x = laws.comm x 𝟏 ∙ laws.left x

  pub spread_right : (x y z : F) → (x ⊕ y) ⊗ z ≡ x ⊗ z ⊕ y ⊗ z
  spread_right x y z = laws.comm (x ⊕ y) z ∙ laws.spread z x y ∙ ap₂ (λ p q. p ⊕ q) (laws.comm z x) (laws.comm z y)

  -- a product is zero and one factor is not: the other is
  pub cancel : (x y : F) → x ⊗ y ≡ 𝟎 → (y ≡ 𝟎 → ⊥) → x ≡ 𝟎
  cancel x y e h =
      sym (one_right x) ∙ ap (λ z. x ⊗ z) (sym (laws.inverse y h)) ∙ sym (laws.assoc x y (over y)) ∙ ap (λ z. z ⊗ over y) e ∙ zero-times (over y)

  pub equal : (x y : F) → x ⊕ minus y ≡ 𝟎 → x ≡ y
  equal x y e =
      sym (add_zero x) ∙ ap (λ z. x ⊕ z) (sym (adds.opposite y) ∙ adds.comm y (minus y)) ∙ sym (adds.assoc x (minus y) y) ∙ ap (λ z. z ⊕ y) e ∙ adds.left y

  pub swapped : (a b c d : F) → (a ⊕ b) ⊕ (c ⊕ d) ≡ (a ⊕ c) ⊕ (b ⊕ d)
  swapped a b c d =
      adds.assoc a b (c ⊕ d) ∙ ap (λ x. a ⊕ x) (sym (adds.assoc b c d) ∙ ap (λ x. x ⊕ d) (adds.comm b c) ∙ adds.assoc c b d) ∙ sym (adds.assoc a c (b ⊕ d))

  pub times_left : (a b c : F) → a ⊗ (b ⊗ c) ≡ b ⊗ (a ⊗ c)
  times_left a b c = sym (laws.assoc a b c) ∙ ap (λ x. x ⊗ c) (laws.comm a b) ∙ laws.assoc b a c

  -- the opposite is the only one
  pub opposite_is : (x y : F) → x ⊕ y ≡ 𝟎 → y ≡ minus x
  opposite_is x y e =
      sym (adds.left y) ∙ ap (λ z. z ⊕ y) (sym (adds.opposite x) ∙ adds.comm x (minus x)) ∙ adds.assoc (minus x) x y ∙ ap (λ z. minus x ⊕ z) e ∙ add_zero (minus x)

  pub minus_times : (x y : F) → minus x ⊗ y ≡ minus (x ⊗ y)
  minus_times x y =
      opposite_is (x ⊗ y) (minus x ⊗ y) (sym (spread_right x (minus x) y) ∙ ap (λ z. z ⊗ y) (adds.opposite x) ∙ zero-times y)

  -- a - (a / b) b = 0
  pub cleared : (a b i : F) → b ⊗ i ≡ 𝟏 → a ⊕ minus (a ⊗ i) ⊗ b ≡ 𝟎
  cleared a b i e =
      ap (λ z. a ⊕ z) (minus_times (a ⊗ i) b ∙ ap minus (laws.assoc a i b ∙ ap (λ z. a ⊗ z) (laws.comm i b ∙ e) ∙ one_right a)) ∙ adds.opposite a

  pub add_left_cancel : (a x y : F) → a ⊕ x ≡ a ⊕ y → x ≡ y
  add_left_cancel a x y e =
      sym (back x) ∙ ap (λ z. minus a ⊕ z) e ∙ back y
    where
      back : (z : F) → minus a ⊕ (a ⊕ z) ≡ z
      back z = sym (adds.assoc (minus a) a z) ∙ ap (λ w. w ⊕ z) (adds.comm (minus a) a ∙ adds.opposite a) ∙ adds.left z
