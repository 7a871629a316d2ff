-- The power whose exponent fills up to 1,023 is the inverse.
use Rattle.std.proofs.Common.{◌≡◌, ◌+◌, ◌-◌, ◌<◌, ℕ, sym, ap, ◌∙◌, ap₂, ⊎_elim, eq-zero-or-pos, arith}
use Rattle.field.proofs.Algebra.{zero-times}
use Rattle.field.specs.Sums.{pow}
use Rattle.field.proofs.Powers.{pow_add}
use Rattle.gf1024.specs.declared.element.Element.{Element}
use Rattle.polynomials.proofs.Products.{inverse_is, inverse_zero}
use Rattle.gf1024.specs.Field.{group, ring, alpha}
use Rattle.gf1024.specs.Elements.{same, field_laws}
use Rattle.gf1024.proofs.Powers.{laws}
use Rattle.gf1024.proofs.operations.ElementField.inv.Goals as goal

-- there is one inverse only
over_is : (x y : Element) → ring.times x y ≡ ring.one → y ≡ ring.over x
over_is x y e = same _ _ (inverse_is x.value y.value positive x.small y.small (ap (λ (z : Element). z.value) e))
  where
    positive : 0 < x.value
    positive =
        ⊎_elim (λ z. absurd (field_laws.proper (sym e ∙ ap (λ a. ring.times a y) (same x group.zero z) ∙ zero-times group ring field_laws y))) (λ l. l) (eq-zero-or-pos x.value)

pub returns-in-Some : goal.returns-in-Some
returns-in-Some c =
    let i : ℕ = c.in-Some.i in
    let e : i + (1023 - i) ≡ 1023 = omega (arith, c.in-Some.ensures.0) in
    over_is c.args.self c.exp.result
    (ap₂ ring.times (sym c.in-Some.ensures.1) c.exp.ensures ∙ sym (pow_add group ring field_laws alpha i (1023 - i)) ∙ ap (pow ring alpha) e ∙ laws.cycle)

pub returns-in-None : goal.returns-in-None
returns-in-None c = c.in-None.ensures ∙ sym (ap ring.over c.in-None.ensures ∙ same _ _ inverse_zero)
