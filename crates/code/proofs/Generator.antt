-- The generator: its coefficients, and that the taps stand for x^30 at its roots.
use Rattle.std.proofs.Common.{◌≡◌, ℕ, ◌-◌, ◌%◌, ◌<◌, Bool, cond, T, eqb, ltb, List, get_or, sym, refl, ap, ◌∙◌, eqb→eq, ltb→lt}
use Rattle.field.specs.Sums.{pow, word_value}
use Rattle.field.proofs.WordValues.{value_same}
use Rattle.polynomials.specs.Product.{step, product, times}
use Rattle.gf1024.specs.Field.{sums, products, group, ring, alpha, element}
use Rattle.gf1024.specs.Elements.{same}
use Rattle.bits.specs.Every.{every}
use Rattle.bits.proofs.Every.{passes_at}
use Rattle.code.specs.declared.encoder.TheConstants.{GENERATOR}
use Rattle.code.specs.Code.{root, by_factor, generator}
use Rattle.code.specs.Division.{tap}
use Rattle.code.proofs.Lifted.{power_value, value_of}

pub coefficients_are : GENERATOR ≡ generator 30
unfolding generator by_factor times product step
coefficients_are = refl

-- the coefficients as taps
unfoldable pub coefficient : ℕ → ℕ
coefficient j = cond (ltb j 30) (get_or GENERATOR (29 - j) 0) 0

pub coefficient_is : (j : ℕ) → coefficient j ≡ tap j
unfolding coefficient tap
coefficient_is j = ap (λ (g : List ℕ). cond (ltb j 30) (get_or g (29 - j) 0) 0) coefficients_are

coefficients_small : T (every (λ j. ltb (coefficient j) 1024) 30)
unfolding coefficient
coefficients_small = tt

pub tap-small : (j : ℕ) → j < 30 → tap j < 1024
tap-small j l = rw (← coefficient_is j) (ltb→lt (coefficient j) 1024 (passes_at (λ j. ltb (coefficient j) 1024) 30 coefficients_small j l))

taps_hold : ℕ → Bool
taps_hold k = eqb (word_value sums products 30 (λ j. coefficient j % 1024) (root k)) (pow products (root k) 30)

all_hold : T (every taps_hold 30)
unfolding taps_hold coefficient word_value times product step
all_hold = tt

pub taps : (k : ℕ) → k < 30 → word_value group ring 30 (λ j. element (tap j)) (pow ring alpha k) ≡ pow ring (pow ring alpha k) 30
unfolding taps_hold
taps k l =
    same _ _
    (value_of 30 (λ j. element (tap j)) (pow ring alpha k) ∙ ap (word_value sums products 30 (λ j. tap j % 1024)) (power_value alpha k)
    ∙ value_same sums products 30 (λ j. tap j % 1024) (λ j. coefficient j % 1024) (root k) (λ j h. ap (λ c. c % 1024) (sym (coefficient_is j)))
    ∙ eqb→eq _ _ (passes_at taps_hold 30 all_hold k l)
    ∙ sym (power_value (pow ring alpha k) 30 ∙ ap (λ x. pow products x 30) (power_value alpha k)))
