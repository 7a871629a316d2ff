-- Tick words of bytes. Assumes nothing.
use Rattle.std.specs.Prelude.{ℕ, List, map}
use Rattle.bits.specs.Bits.{bit, number}

-- bit i is bit t of the byte of position i
abbrev pub word_at : List ℕ → ℕ → ℕ
word_at bytes t = number (map (λ b. bit b t) bytes)
