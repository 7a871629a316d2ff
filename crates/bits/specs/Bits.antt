-- Bits in the order sent. A number's lowest bit is sent first. Assumes nothing.
use Rattle.std.specs.Prelude.{ℕ, zero, suc, ◌+◌, ◌*◌, ◌/◌, ◌%◌, ◌^◌, ◌<◌, List, [], ◌∷◌, ◌++◌, take, drop, slice_index}

-- bit i of x
abbrev pub bit : ℕ → ℕ → ℕ
bit x i = x / 2 ^ i % 2

-- n bits of x from bit i on
unfoldable pub field : ℕ → ℕ → ℕ → List ℕ
field x i zero = []
field x i (suc n) = bit x i ∷ field x (suc i) n

-- the number that has these bits
unfoldable pub number : List ℕ → ℕ
number [] = 0
number (b ∷ bs) = b + 2 * number bs

-- the bits of octets
unfoldable pub octet_bits : List ℕ → List ℕ
octet_bits [] = []
octet_bits (x ∷ xs) = field x 0 8 ++ octet_bits xs

-- n octets that have these bits
unfoldable pub octets : ℕ → List ℕ → List ℕ
octets zero bs = []
octets (suc n) bs = number (take 8 bs) ∷ octets n (drop 8 bs)

-- f 0, f 1 and so on, n of them
unfoldable pub table : ℕ → (ℕ → ℕ) → List ℕ
table zero f = []
table (suc n) f = f zero ∷ table n (λ i. f (suc i))

-- bit i of a list
abbrev pub nth : List ℕ → ℕ → ℕ
nth bs i = slice_index bs i

-- a list of 0 and 1
abbrev pub Binary : List ℕ → Type 0
Binary bs = (i : ℕ) → nth bs i < 2

-- a list of octets
abbrev pub Octets : List ℕ → Type 0
Octets xs = (i : ℕ) → nth xs i < 256
