-- Counts that stop at their top. Assumes nothing.
use Rattle.std.specs.Prelude.{ℕ, ◌+◌, ◌-◌, ◌^◌, min}

-- ticks have 64 bits
abbrev pub top : ℕ
top = 2 ^ 64 - 1

-- one more on a count that stops at its top
abbrev pub one_more : ℕ → ℕ
one_more count = min (count + 1) top
