-- The field of 1,024 elements: its operations on numbers and on elements, its root alpha, and its laws.
use Rattle.std.specs.Prelude.{◌≡◌, ℕ, ◌%◌, ◌<◌, bit_xor}
use Rattle.std.proofs.lemmas.Nat.{xor_lt}
use Rattle.std.proofs.Common.{lit<}
use Rattle.field.specs.Laws.{Group, Ring, FieldLaws}
use Rattle.field.specs.Sums.{pow}
use Rattle.gf1024.specs.declared.element.Element.{Element}
use Rattle.polynomials.specs.Product.{times, inverse}
use Rattle.polynomials.proofs.Closed.{low_lt, times_lt, inverse_lt}

-- the operations on numbers, of which those below 1,024 are the field
abbrev pub sums : Group ℕ
sums = record {
  zero = 0;
  plus = bit_xor;
  minus = λ x. x;
}

abbrev pub products : Ring ℕ
products = record {
  one = 1;
  times = times;
  over = inverse;
}

-- the same on elements
abbrev pub group : Group Element
group = record {
  zero = record { value = 0; small = lit< tt };
  plus = λ x y. record { value = bit_xor x.value y.value; small = xor_lt 10 x.value y.value x.small y.small };
  minus = λ x. x;
}

abbrev pub ring : Ring Element
ring = record {
  one = record { value = 1; small = lit< tt };
  times = λ x y. record { value = times x.value y.value; small = times_lt x.value y.value x.small };
  over = λ x. record { value = inverse x.value; small = inverse_lt x.value x.small };
}

-- the element of the lowest ten bits of a
abbrev pub element : ℕ → Element
element a = record { value = a % 1024; small = low_lt a }

-- the root of x^10 + x^3 + 1
abbrev pub alpha : Element
alpha = record { value = 2; small = lit< tt }

-- It is a field, and alpha has the order 1,023. The last two are products that are soon done by hand.
pub record Laws : Type 0 where
  pub field : FieldLaws group ring
  pub cycle : pow ring alpha 1023 ≡ ring.one
  pub distinct : (i j : ℕ) → i < 1023 → j < 1023 → pow ring alpha i ≡ pow ring alpha j → i ≡ j
  pub wraps : times 0x200 2 ≡ 9
  pub halves : times 0x204 2 ≡ 1
