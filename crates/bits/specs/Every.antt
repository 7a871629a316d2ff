-- Tests at each number below a bound, computed. Assumes nothing.
use Rattle.std.specs.Prelude.{ℕ, zero, suc, Bool, ◌&&◌, true}

-- f holds at each number below n
abbrev pub every : (ℕ → Bool) → ℕ → Bool
every f zero = true
every f (suc n) = f n && every f n

-- f holds at each two numbers below n
abbrev pub every_two : (ℕ → ℕ → Bool) → ℕ → Bool
every_two f n = every (λ k. every (f k) n) n
