-- What is printed of a group. Assumes nothing.
use Rattle.std.specs.Prelude.{ℕ, ◌+◌, ◌/◌, ◌%◌, cond, List, [], ◌∷◌, ◌++◌, drop, nat_lt, slice_index}

-- the character of a hexadecimal digit: 0 to 9, a to f
abbrev pub digit : ℕ → ℕ
digit n = cond (nat_lt n 10) (48 + n) (87 + n)

-- two digits an octet, the high one first
unfoldable pub digits : List ℕ → List ℕ
digits [] = []
digits (x ∷ xs) = digit (x / 16) ∷ digit (x % 16) ∷ digits xs

-- bit 0, a space, the octets and a line feed
unfoldable pub line_of : List ℕ → List ℕ
line_of group = digit (slice_index group 0 % 16) ∷ 32 ∷ (digits (drop 1 group) ++ 10 ∷ [])
