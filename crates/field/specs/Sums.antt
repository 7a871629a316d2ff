-- Sums and powers over the operations of a field.
use Rattle.std.specs.Prelude.{ℕ, zero, suc, ◌-◌}
use Rattle.field.specs.Laws.{Group, Ring}

-- f 0 + .. + f (n - 1)
abbrev pub sum : {F : Type 0} → Group F → ℕ → (ℕ → F) → F
sum g zero f = g.zero
sum g (suc n) f = g.plus (sum g n f) (f n)

-- x to the power k
abbrev pub pow : {F : Type 0} → Ring F → F → ℕ → F
pow r x zero = r.one
pow r x (suc k) = r.times x (pow r x k)

-- the syndrome k of the terms c at the points x: the sum of c_i x_i^k, i < n
abbrev pub syndrome : {F : Type 0} → Group F → Ring F → ℕ → (ℕ → F) → (ℕ → F) → ℕ → F
syndrome g r n x c k = sum g n (λ i. r.times (c i) (pow r (x i) k))

-- the value at x of the polynomial of degree below d with the coefficients v, lowest first
abbrev pub polynomial : {F : Type 0} → Group F → Ring F → ℕ → (ℕ → F) → F → F
polynomial g r d v x = sum g d (λ j. r.times (v j) (pow r x j))

-- the value at x of a word of n symbols c, the first of which is the coefficient of degree n - 1
unfoldable pub word_value : {F : Type 0} → Group F → Ring F → ℕ → (ℕ → F) → F → F
word_value g r n c x = sum g n (λ i. r.times (c i) (pow r x (n - 1 - i)))
