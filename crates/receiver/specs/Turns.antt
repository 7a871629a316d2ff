-- A ring as a list. Assumes nothing.
use Rattle.std.specs.Prelude.{ℕ, List, ◌++◌, take, drop, reverse}

-- a ring whose next word goes to place `next`, newest first
unfoldable pub newest_first : List ℕ → ℕ → List ℕ
newest_first words next = reverse (take next words) ++ reverse (drop next words)
