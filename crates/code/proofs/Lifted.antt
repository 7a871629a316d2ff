-- Words of symbols and words of elements: the values agree, so codewords are codewords.
use Rattle.std.proofs.Common.{◌≡◌, ℕ, zero, suc, ◌-◌, ◌%◌, ◌<◌, List, map, length, get_or, sym, refl, ap, ◌∙◌, arith}
use lib.Bits.{bit_xor}
use lib.ListN.{get_or-map}
use Rattle.field.specs.Sums.{sum, pow, syndrome, word_value}
use Rattle.field.specs.Places.{Apart}
use Rattle.field.proofs.Sums.{sum_same}
use Rattle.field.proofs.WordValues.{value_same, syndrome-value}
use Rattle.gf1024.specs.declared.element.Element.{Element}
use Rattle.polynomials.specs.Product.{times}
use Rattle.gf1024.specs.Field.{sums, products, group, ring, alpha, element}
use Rattle.gf1024.specs.Elements.{same}
use Rattle.gf1024.proofs.Powers.{laws}
use Rattle.code.specs.Code.{root, value, Codeword}
use Rattle.code.specs.Lifting.{at, Points}

sum-value : (n : ℕ) (f : ℕ → Element) → (sum group n f).value ≡ sum sums n (λ i. (f i).value)
sum-value zero f = refl
sum-value (suc n) f = ap (λ x. bit_xor x (f n).value) (sum-value n f)

pub power_value : (x : Element) (k : ℕ) → (pow ring x k).value ≡ pow products x.value k
power_value x zero = refl
power_value x (suc k) = ap (times x.value) (power_value x k)

pub value_of : (n : ℕ) (c : ℕ → Element) (x : Element) → (word_value group ring n c x).value ≡ word_value sums products n (λ i. (c i).value) x.value
unfolding word_value
value_of n c x =
    sum-value n (λ i. ring.times (c i) (pow ring x (n - 1 - i)))
    ∙ sum_same sums n (λ i. times (c i).value (pow ring x (n - 1 - i)).value) (λ i. times (c i).value (pow products x.value (n - 1 - i))) (λ i l. ap (times (c i).value) (power_value x (n - 1 - i)))

pub small_is : (a : ℕ) → a < 1024 → a % 1024 ≡ a
small_is a h = omega arith

pub equal_symbols : (a b : ℕ) → a < 1024 → b < 1024 → element a ≡ element b → a ≡ b
equal_symbols a b h k e = sym (small_is a h) ∙ ap (λ (x : Element). x.value) e ∙ small_is b k

-- the points of the n places of a word
abbrev pub point : ℕ → ℕ → Element
point n i = pow ring alpha (n - 1 - i)

pub points_are : (n : ℕ) (xs : List Element) → n ≡ 544 → Points 544 xs → (i : ℕ) → i < n → at xs i ≡ point n i
points_are n xs size points i l = points i (omega arith) ∙ ap (pow ring alpha) (let e : 543 - i ≡ n - 1 - i = omega arith in e)

pub points_apart : (n : ℕ) → n < 1024 → Apart n (point n)
points_apart n h i j a b e = let q = laws.distinct (n - 1 - i) (n - 1 - j) (omega arith) (omega arith) e in omega arith

-- the value of elements c that are the symbols of w
pub value_is : (n : ℕ) (w : List ℕ) (c : ℕ → Element) → length w ≡ n → ((i : ℕ) → i < n → get_or w i 0 < 1024) → ((i : ℕ) → i < n → c i ≡ element (get_or w i 0)) → (k : ℕ) → (word_value group ring n c (pow ring alpha k)).value ≡ value w (root k)
unfolding value
value_is n w c size small is k =
    value_of n c (pow ring alpha k) ∙ ap (word_value sums products n (λ i. (c i).value)) (power_value alpha k)
    ∙ value_same sums products n (λ i. (c i).value) (λ i. get_or w i 0) (root k) (λ i l. ap (λ (x : Element). x.value) (is i l) ∙ small_is (get_or w i 0) (small i l))
    ∙ ap (λ m. word_value sums products m (λ i. get_or w i 0) (root k)) (sym size)

-- their syndromes
module _ (n : ℕ) (w : List ℕ) (c points : ℕ → Element) (size : length w ≡ n) (small : (i : ℕ) → i < n → get_or w i 0 < 1024) (is : (i : ℕ) → i < n → c i ≡ element (get_or w i 0)) (at_point : (i : ℕ) → i < n → points i ≡ point n i) where
  syndrome_is : (k : ℕ) → (syndrome group ring n points c k).value ≡ value w (root k)
  syndrome_is k = ap (λ (x : Element). x.value) (syndrome-value group ring laws.field n c points alpha k at_point) ∙ value_is n w c size small is k

  pub syndromes_zero : Codeword w → (k : ℕ) → k < 30 → syndrome group ring n points c k ≡ group.zero
  syndromes_zero code k l = same _ _ (syndrome_is k ∙ code.roots k l)

-- the symbols as a list of elements
pub at_map : (w : List ℕ) (i : ℕ) → at (map element w) i ≡ element (get_or w i 0)
at_map w i = ap (get_or (map element w) i) (same group.zero (element 0) refl) ∙ get_or-map element w i 0
