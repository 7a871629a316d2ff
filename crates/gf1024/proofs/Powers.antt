-- The powers of alpha, and the laws of the field on the whole.
use Rattle.std.specs.Prelude.{◌≡◌, ℕ, zero, suc, ◌<◌, refl}
use Rattle.std.proofs.Common.{sym, ◌∙◌, ap, arith}
use Rattle.std.proofs.Math.Decide.{dec_lt}
use Rattle.field.specs.Sums.{pow}
use Rattle.polynomials.specs.Product.{step, product, times, shifted}
use Rattle.polynomials.proofs.Products.{times_two, shifted_suc}
use Rattle.polynomials.proofs.Order.{distinct, whole}
use Rattle.gf1024.specs.declared.element.Element.{Element}
use Rattle.gf1024.specs.Field.{ring, alpha, Laws}
use Rattle.gf1024.specs.Elements.{same, field_laws}

pub power_value : (k : ℕ) → (pow ring alpha k).value ≡ shifted k 1
power_value zero = refl
power_value (suc k) = times_two (pow ring alpha k).value (pow ring alpha k).small ∙ ap (step 9 1033) (power_value k) ∙ sym (shifted_suc k 1)

powers_differ : (i j : ℕ) → i < 1023 → j < 1023 → pow ring alpha i ≡ pow ring alpha j → i ≡ j
powers_differ i j h k e = go (dec_lt i j) (dec_lt j i)
  where
    same_number : shifted i 1 ≡ shifted j 1
    same_number = sym (power_value i) ∙ ap (λ (x : Element). x.value) e ∙ power_value j

    go : Dec (i < j) → Dec (j < i) → i ≡ j
    go (yes a) b = absurd (distinct i j a k same_number)
    go (no a) (yes b) = absurd (distinct j i b h (sym same_number))
    go (no a) (no b) = omega arith

wrapped : times 0x200 2 ≡ 9
unfolding times product step
wrapped = refl

halved : times 0x204 2 ≡ 1
unfolding times product step
halved = refl

pub laws : Laws
laws = record {
  field = field_laws;
  cycle = same _ _ (power_value 1023 ∙ whole);
  distinct = powers_differ;
  wraps = wrapped;
  halves = halved;
}
