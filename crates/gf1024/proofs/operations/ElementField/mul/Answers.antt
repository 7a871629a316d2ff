-- The exponents of a product add up, and zero times any element is zero.
use Rattle.std.proofs.Common.{sym, ap, ◌∙◌, ap₂}
use Rattle.std.proofs.lemmas.Option.{MatchOption-at_none}
use Rattle.field.proofs.Algebra.{zero-times, times_zero}
use Rattle.field.proofs.Powers.{pow_add}
use Rattle.gf1024.specs.Field.{group, ring, alpha}
use Rattle.gf1024.specs.Elements.{field_laws}
use Rattle.gf1024.proofs.operations.ElementField.mul.Goals.{in_default-via-in-Some+in_default, in_default-via-in_default}
use Rattle.gf1024.proofs.operations.ElementField.mul.Goals as goal

pub returns-in-Some-Some : goal.returns-in-Some-Some
returns-in-Some-Some c =
    c.exp.ensures ∙ pow_add group ring field_laws alpha c.in-Some-Some.i c.in-Some-Some.j ∙ ap₂ ring.times c.in-Some-Some.ensures.1 c.in-Some-Some.ensures'.1

pub returns-in_default : goal.returns-in_default
returns-in_default c = elim c.in_default.branch [
  | in_default-via-in-Some+in_default w ↦ c.zero.ensures ∙ sym (ap (ring.times c.args.self) (MatchOption-at_none _ _ w.in_default.is-1 c.log-2.ensures) ∙ times_zero group ring field_laws c.args.self)
  | in_default-via-in_default w ↦ c.zero.ensures ∙ sym (ap (λ x. ring.times x c.args.other) (MatchOption-at_none _ _ w.in_default.is-0 c.log.ensures) ∙ zero-times group ring field_laws c.args.other)
]
