-- What a receiver has heard of late. Assumes nothing.
use Rattle.std.specs.Prelude.{ℕ, ◌-◌, if◌then◌else◌, List, ◌∷◌, length, take, Some, None, Option, nat_lt}
use Rattle.bits.specs.Bits.{bit, number, table, nth}

-- Bit i of a tick word is the bit of position i. The words of a hunt are kept newest first; 8,192 of them are more than a
-- pair takes at the largest skew.
abbrev pub kept : ℕ → List ℕ → ℕ → List ℕ
kept n recent word = take n (word ∷ recent)

unfoldable pub heard : List ℕ → ℕ → List ℕ
heard recent word = kept 8192 recent word

-- the bit that position i got `age` ticks before the last
abbrev pub bit_ago : List ℕ → ℕ → ℕ → ℕ
bit_ago recent i age = bit (nth recent age) i

-- the last n bits of position i as a number, the oldest lowest
unfoldable pub last_bits : ℕ → List ℕ → ℕ → ℕ
last_bits n recent i = number (table n (λ k. bit_ago recent i (n - 1 - k)))

-- The window of a position is its last 120 bits. There is none before 120 bits of the hunt are in.
unfoldable pub window : List ℕ → ℕ → Option ℕ
window recent i = if nat_lt (length recent) 120 then None else Some (last_bits 120 recent i)
