-- Polynomials over the field of two elements as numbers, bit i the coefficient of x^i: their product modulo a polynomial, and the field of 1,024 elements.
use Rattle.std.specs.Prelude.{ℕ, zero, suc, ◌*◌, ◌/◌, ◌%◌, ◌^◌, bit_xor}

-- a times x, modulo the polynomial m of degree j + 1
unfoldable pub step : ℕ → ℕ → ℕ → ℕ
step j m a = bit_xor (a * 2) (a / 2 ^ j % 2 * m)

-- a times the lowest n bits of b, modulo the same
unfoldable pub product : ℕ → ℕ → ℕ → ℕ → ℕ → ℕ
product j m zero a b = 0
product j m (suc n) a b = bit_xor (b % 2 * a) (product j m n (step j m a) (b / 2))

-- the product in the field of 1,024 elements: x^10 = x^3 + 1
unfoldable pub times : ℕ → ℕ → ℕ
times a b = product 9 1033 10 a b

-- a^2 a^4 .. a^(2^n)
unfoldable pub squares : ℕ → ℕ → ℕ
squares zero a = 1
squares (suc n) a = let b : ℕ = times a a in times b (squares n b)

-- the inverse of a is a^1022, and 1022 = 2 + 4 + .. + 512
unfoldable pub inverse : ℕ → ℕ
inverse a = squares 9 a

-- a times x^n
abbrev pub shifted : ℕ → ℕ → ℕ
shifted zero a = a
shifted (suc n) a = shifted n (step 9 1033 a)
