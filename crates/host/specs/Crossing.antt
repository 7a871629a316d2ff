-- How symbols cross to C: two octets each, the low octet first. Assumes nothing.
use Rattle.std.specs.Prelude.{ℕ, ◌+◌, ◌*◌, ◌/◌, ◌%◌, List, [], ◌∷◌, length, ◌==◌, if◌then◌else◌, slice_index}
use Rattle.bits.specs.Bits.{table}

abbrev pub symbol_at : List ℕ → ℕ → ℕ
symbol_at xs i = slice_index xs (2 * i) + 256 * slice_index xs (2 * i + 1)

-- the symbols of a buffer; one of odd length has none, so that its length is wrong
unfoldable pub symbols_in : List ℕ → List ℕ
symbols_in xs = if length xs % 2 == 0 then table (length xs / 2) (symbol_at xs) else []

-- the octets of symbols
unfoldable pub symbol_octets : List ℕ → List ℕ
symbol_octets [] = []
symbol_octets (x ∷ xs) = x % 256 ∷ x / 256 ∷ symbol_octets xs
