-- Elements with the same number are equal, so the laws of the numbers are those of the elements. The implementation cites them.
use Rattle.std.specs.Prelude.{◌≡◌, ℕ, suc, ◌<◌, Bool, true, false, T, MatchBool, ◌==◌, ◌≢◌, nat_eq, refl}
use Rattle.std.proofs.Common.{sym, ◌∙◌, ap, subst, ⊎_elim, eq-zero-or-pos, arith, eqb→eq}
use mathlib.Core.HLevel.{is_prop→PathP}
use Rattle.std.proofs.Math.Bridge.{le_prop}
use Rattle.std.specs.Int.Bits.{xor_assoc, xor_self, xor_zero_l}
use Rattle.std.proofs.lemmas.Nat.{xor_comm}
use Rattle.field.specs.Laws.{AddLaws, FieldLaws}
use Rattle.polynomials.proofs.Products.{times_assoc, times_comm, one_times, times_sum_right, times_inverse}
use Rattle.gf1024.specs.declared.element.Element.{Element}
use Rattle.gf1024.specs.Field.{group, ring}

pub same : (x y : Element) → x.value ≡ y.value → x ≡ y
same x y e = λ i. record { value = e i; small = is_prop→PathP (λ j. e j < 1024) (λ j. le_prop {n = suc (e j)} {m = 1024}) x.small y.small i }

pub add_laws : AddLaws group
add_laws = record {
  left = λ x. same _ _ (xor_zero_l x.value);
  comm = λ x y. same _ _ (xor_comm x.value y.value);
  assoc = λ x y z. same _ _ (xor_assoc x.value y.value z.value);
  opposite = λ x. same _ _ (xor_self x.value);
}

positive : (x : Element) → (x ≢ group.zero) → 0 < x.value
positive x h = ⊎_elim (λ e. absurd (h (same x group.zero e))) (λ l. l) (eq-zero-or-pos x.value)

pub field_laws : FieldLaws group ring
field_laws = record {
  adds = add_laws;
  left = λ x. same _ _ (one_times x.value x.small);
  comm = λ x y. same _ _ (times_comm x.value y.value x.small y.small);
  assoc = λ x y z. same _ _ (times_assoc x.value y.value z.value x.small y.small z.small);
  spread = λ x y z. same _ _ (times_sum_right x.value y.value z.value);
  inverse = λ x h. same _ _ (times_inverse x.value (positive x h) x.small);
  proper = λ e. (let q : ◌≡◌ {A = ℕ} 1 0 = ap (λ (x : Element). x.value) e in omega arith);
}

-- an element is zero exactly if its number is
pub zero_test : (x : Element) → MatchBool (x.value == 0) (x ≡ group.zero) (x ≢ group.zero)
zero_test x = go (x.value == 0) refl
  where
    go : (b : Bool) → (x.value == 0) ≡ b → MatchBool b (x ≡ group.zero) (x ≢ group.zero)
    go true e = same x group.zero (eqb→eq x.value 0 (rw e tt))
    go false e = λ h. subst (λ (b : Bool). T b) (sym (ap (λ (y : Element). nat_eq y.value 0) h) ∙ e) tt
