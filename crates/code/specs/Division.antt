-- The division of a message by the generator, in a register of thirty symbols and three zeros behind them.
use Rattle.std.specs.Prelude.{◌≡◌, ℕ, ◌+◌, ◌-◌, ◌<◌, ◌≤◌, List, length, bit_xor, if◌then◌else◌, nat_lt, slice_index}
use Rattle.field.specs.Sums.{pow, word_value}
use Rattle.gf1024.specs.declared.element.Element.{Element}
use Rattle.polynomials.specs.Product.{times}
use Rattle.gf1024.specs.Field.{group, ring, alpha}
use Rattle.code.specs.Code.{generator}
use Rattle.code.specs.Lifting.{at, symbol}

-- the coefficient of degree 29 - j of the generator, and zero behind those
unfoldable pub tap : ℕ → ℕ
tap j = if nat_lt j 30 then slice_index (generator 30) (29 - j) else 0

pub record Register (r : List ℕ) : Type 0 where
  pub size : length r ≡ 33
  pub small : (i : ℕ) → slice_index r i < 1024
  pub behind : (i : ℕ) → 30 ≤ i → slice_index r i ≡ 0

-- the first b places of the register are shifted, with the feedback f
pub record Shifted (old : List ℕ) (f b : ℕ) (new : List ℕ) : Type 0 where
  pub step : (j : ℕ) → j < b → slice_index new j ≡ bit_xor (slice_index old (j + 1)) (times f (tap j))
  pub after : (j : ℕ) → b ≤ j → slice_index new j ≡ slice_index old j

-- the value at alpha^k of the first n symbols of the message times x^30
unfoldable pub raised : List ℕ → ℕ → ℕ → Element
raised m n k = ring.times (word_value group ring n (symbol m) (pow ring alpha k)) (pow ring (pow ring alpha k) 30)

-- at the roots of the generator, the register has the value of the message times x^30
pub record Remainder (m : List ℕ) (n : ℕ) (r : List ℕ) : Type 0 where
  pub register : Register r
  pub value : (k : ℕ) → k < 30 → word_value group ring 30 (symbol r) (pow ring alpha k) ≡ raised m n k

-- the first n of the register and the symbols behind the first 514 are added
pub record Joined (w old : List ℕ) (n : ℕ) (new : List ℕ) : Type 0 where
  pub size : length new ≡ 33
  pub front : (j : ℕ) → j < n → slice_index new j ≡ bit_xor (slice_index old j) (slice_index w (514 + j))
  pub rest : (j : ℕ) → n ≤ j → slice_index new j ≡ slice_index old j

-- at the roots of the generator, the register has the value of the word
pub record WordRemainder (w r : List ℕ) : Type 0 where
  pub size : length r ≡ 33
  pub small : (j : ℕ) → j < 30 → slice_index r j < 1024
  pub value : (k : ℕ) → k < 30 → word_value group ring 30 (symbol r) (pow ring alpha k) ≡ word_value group ring 544 (symbol w) (pow ring alpha k)

abbrev pub NoRemainder : List ℕ → Type 0
NoRemainder r = (j : ℕ) → j < 30 → slice_index r j ≡ 0

-- the values of the register at the roots of the generator
abbrev pub RegisterValues : List ℕ → List Element → Type 0
RegisterValues r s = (k : ℕ) → k < 30 → at s k ≡ word_value group ring 30 (symbol r) (pow ring alpha k)

-- the values of the word there
abbrev pub WordSyndromes : List ℕ → List Element → Type 0
WordSyndromes w s = (k : ℕ) → k < 30 → at s k ≡ word_value group ring 544 (symbol w) (pow ring alpha k)
