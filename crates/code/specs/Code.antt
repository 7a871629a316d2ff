-- The code: words of 544 symbols of ten bits, of which the first 514 are the message and the last 30 make the word a codeword.
use Rattle.std.specs.Prelude.{◌≡◌, ℕ, zero, suc, ◌/◌, ◌%◌, ◌^◌, ◌<◌, Bool, ◌&&◌, true, List, [], ◌∷◌, ◌++◌, length, take, replicate, ◌==◌, nat_le, Option, if◌then◌else◌, bit_xor, slice_index}
use Rattle.std.specs.Option.{option_map, unwrap_or}
use Rattle.bits.specs.Lowest.{lowest}
use Rattle.field.specs.Sums.{pow, word_value}
use Rattle.polynomials.specs.Product.{times}
use Rattle.gf1024.specs.Field.{sums, products}

-- the power k of alpha
abbrev pub root : ℕ → ℕ
root k = pow products 2 k

-- the value at x of the polynomial whose coefficients are the symbols of w, the highest first
unfoldable pub value : List ℕ → ℕ → ℕ
value w x = word_value sums products (length w) (λ i. slice_index w i) x

pub record WellFormed (w : List ℕ) : Type 0 where
  pub size : length w ≡ 544
  pub symbols : (i : ℕ) → i < 544 → slice_index w i < 1024

-- a word that is zero at the first thirty powers of alpha
pub record Codeword (w : List ℕ) : Type 0 where
  pub formed : WellFormed w
  pub roots : (k : ℕ) → k < 30 → value w (root k) ≡ 0

-- the message that a word carries
abbrev pub message_of : List ℕ → List ℕ
message_of w = take 514 w

-- at how many of the first n places v and w differ
unfoldable pub differences : ℕ → (ℕ → ℕ) → (ℕ → ℕ) → ℕ
differences zero v w = 0
differences (suc n) v w = if v n == w n then differences n v w else suc (differences n v w)

-- the number of symbols in which two words differ
unfoldable pub distance : List ℕ → List ℕ → ℕ
distance v w = differences 544 (λ i. slice_index v i) (λ i. slice_index w i)

-- whether a word is zero at the first n powers of alpha
unfoldable pub zero_at : List ℕ → ℕ → Bool
zero_at w zero = true
zero_at w (suc k) = value w (root k) == 0 && zero_at w k

-- the n lowest digits of x to the base 1,024, the lowest first
unfoldable pub digits_of : ℕ → ℕ → List ℕ
digits_of zero x = []
digits_of (suc n) x = x % 1024 ∷ digits_of n (x / 1024)

-- Of all lists of n symbols the first at which f holds, in the order of the numbers whose digits they are. It is never run.
unfoldable pub first_list : ℕ → (List ℕ → Bool) → Option (List ℕ)
first_list n f = option_map (digits_of n) (lowest (λ x. f (digits_of n x)) (1024 ^ n))

-- The codeword that begins with a message: of all ways to put thirty symbols behind it, the one that makes the word zero at the
-- thirty roots. Behind a list that is no message and has none there are zeros.
unfoldable pub codeword_of : List ℕ → List ℕ
codeword_of m = m ++ unwrap_or (first_list 30 (λ s. zero_at (m ++ s) 30)) (replicate 30 0)

-- the codeword that differs from w in at most as many symbols as the reach, if there is one; of a reach up to 15 there are no two
unfoldable pub codeword_near : ℕ → List ℕ → Option (List ℕ)
codeword_near reach w = first_list 544 (λ c. zero_at c 30 && nat_le (distance w c) reach)

-- the coefficients, lowest first, of p times x + a, where c is the coefficient below those of p
unfoldable pub by_factor : ℕ → ℕ → List ℕ → List ℕ
by_factor a c [] = c ∷ []
by_factor a c (b ∷ p) = bit_xor c (times a b) ∷ by_factor a b p

-- the coefficients, lowest first, of the product of x + alpha^i, i < n
unfoldable pub generator : ℕ → List ℕ
generator zero = 1 ∷ []
generator (suc n) = by_factor (root n) 0 (generator n)
