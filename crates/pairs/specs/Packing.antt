-- Four symbols in five octets: what private functions of the strips compute. Assumes nothing.
use Rattle.std.specs.Prelude.{◌≡◌, ℕ, ◌+◌, ◌*◌, ◌<◌, ◌≤◌, ◌⊎◌, List, [], ◌++◌, slice_index_or}
use Rattle.bits.specs.Bits.{Binary, field, number, table, nth}
use Rattle.pairs.specs.Strips.{lane_symbol, pair_bit, lane_octets, strip_octets}

abbrev pub four_symbols : ℕ → ℕ → ℕ → ℕ → List ℕ
four_symbols s t u v = field s 0 10 ++ (field t 0 10 ++ (field u 0 10 ++ field v 0 10))

-- the forty bits of a lane in rows 4 q to 4 q + 3
unfoldable pub quad_bits : ℕ → List ℕ → List ℕ → ℕ → ℕ → List ℕ
quad_bits lanes a b l q = table 40 (λ i. pair_bit lanes a b l (40 * q + i))

-- every symbol has ten bits
abbrev pub Small : List ℕ → Type 0
Small a = (i : ℕ) → nth a i < 1024

-- one of two words: A is 0, B is 1
abbrev pub word_of : List (List ℕ) → ℕ → List ℕ
word_of words w = slice_index_or words w []

-- what lanes carry of two words: a symbol, forty bits, a lane's octets, and those of n lanes
abbrev pub symbol_on : ℕ → List (List ℕ) → ℕ → ℕ → ℕ
symbol_on lanes words = lane_symbol lanes (word_of words 0) (word_of words 1)

abbrev pub quad_on : ℕ → List (List ℕ) → ℕ → ℕ → List ℕ
quad_on lanes words = quad_bits lanes (word_of words 0) (word_of words 1)

abbrev pub octets_on : ℕ → List (List ℕ) → ℕ → List ℕ
octets_on lanes words = lane_octets lanes (word_of words 0) (word_of words 1)

abbrev pub strip_on : ℕ → List (List ℕ) → ℕ → List ℕ
strip_on lanes words = strip_octets lanes (word_of words 0) (word_of words 1)

abbrev pub AllSmall : List (List ℕ) → Type 0
AllSmall words = (w : ℕ) → Small (word_of words w)

-- bits that are zeros from number n on
abbrev pub IsZeroFrom : ℕ → List ℕ → Type 0
IsZeroFrom n bits = (i : ℕ) → n ≤ i → nth bits i ≡ 0

-- tens of bits, and every second of the symbols that they are, from number `first` on
abbrev pub AllBinary : List (List ℕ) → Type 0
AllBinary tens = (k : ℕ) → Binary (slice_index_or tens k [])

abbrev pub every_second : List (List ℕ) → ℕ → ℕ → ℕ
every_second tens first x = number (slice_index_or tens (2 * x + first) [])

abbrev pub Lanes : ℕ → Type 0
Lanes lanes = (lanes ≡ 8) ⊎ (lanes ≡ 16)
