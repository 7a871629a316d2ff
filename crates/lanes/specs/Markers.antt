-- Alignment markers, and the test of a window for them. Assumes nothing.
use Rattle.std.specs.Prelude.{◌≡◌, ℕ, zero, suc, ◌+◌, ◌-◌, ◌*◌, ◌/◌, ◌%◌, ◌^◌, ◌<◌, Bool, true, if◌then◌else◌, ◌&&◌, List, [], ◌∷◌, take, drop, replicate, Some, Option, ◌==◌, nat_le, nat_lt}
use Rattle.bits.specs.Bits.{table, number, octet_bits}
use Rattle.bits.specs.Lowest.{lowest}
use Rattle.lanes.specs.Rates.{Layout}

-- the marker that has these letters
abbrev pub marker_with : ℕ → ℕ → ℕ → ℕ → ℕ → List ℕ
marker_with a b u v w =
    0x9A ∷ 0x4A ∷ 0x26 ∷ a ∷ 0x65 ∷ 0xB5 ∷ 0xD9 ∷ b ∷ u ∷ v ∷ w ∷ (255 - b) ∷ (255 - u) ∷ (255 - v) ∷ (255 - w) ∷ []

-- the octets of the marker of lane l, zeros past the lanes
unfoldable pub marker_at : Layout → ℕ → List ℕ
marker_at r l = if nat_lt l r.lanes then table 15 (r.octet l) else replicate 15 0

-- symbol i of some bits: ten of them, the first lowest
unfoldable pub symbol_in : List ℕ → ℕ → ℕ
symbol_in bs i = number (take 10 (drop (10 * i) bs))

-- the 120 bits of the marker of lane l, in the order sent
unfoldable pub marker_bits : Layout → ℕ → List ℕ
marker_bits r l = octet_bits (marker_at r l)

-- the number whose octets, lowest first, are f 0, f 1 and so on, n of them
unfoldable pub octets_number : (ℕ → ℕ) → ℕ → ℕ
octets_number f zero = 0
octets_number f (suc n) = f zero + 256 * octets_number (λ i. f (suc i)) n

-- nibble j of a number, and of octets; the lowest comes first
abbrev pub nibble : ℕ → ℕ → ℕ
nibble x j = x / 2 ^ (4 * j) % 16

abbrev pub nibble_of : (ℕ → ℕ) → ℕ → ℕ
nibble_of octet j = nibble (octet (j / 2)) (j % 2)

abbrev pub unequal : ℕ → ℕ → ℕ
unequal a b = if a == b then 0 else 1

-- how many nibbles differ in these octets
unfoldable pub wrong : (ℕ → ℕ) → (ℕ → ℕ) → List ℕ → ℕ
wrong v w [] = 0
wrong v w (o ∷ os) = unequal (v (2 * o)) (w (2 * o)) + unequal (v (2 * o + 1)) (w (2 * o + 1)) + wrong v w os

-- the octets that all markers share, and those by which a lane is told
abbrev pub shared : List ℕ
shared = 0 ∷ 1 ∷ 2 ∷ 4 ∷ 5 ∷ 6 ∷ []

abbrev pub own : List ℕ
own = 8 ∷ 9 ∷ 10 ∷ 12 ∷ 13 ∷ 14 ∷ []

-- A window is the last 120 bits of a position as a number, the oldest bit lowest. At most 3 of its 12 nibbles in some
-- part differ from a marker:
unfoldable pub near : ℕ → (ℕ → ℕ) → List ℕ → Bool
near window marker part = nat_le (wrong (nibble window) (nibble_of marker) part) 3

-- It passes for a lane if it is near to the lane's marker in both parts.
unfoldable pub passes : Layout → ℕ → ℕ → Bool
passes r window l = nat_lt l r.lanes && (near window (r.octet l) shared && near window (r.octet l) own)

-- the lowest lane for which it passes
abbrev pub found : Layout → ℕ → Option ℕ
found r window = lowest (passes r window) r.lanes

-- and no other: o is the lane of every pass
abbrev pub Only : Layout → ℕ → Option ℕ → Type 0
Only r window o = (l : ℕ) → passes r window l ≡ true → o ≡ Some l

-- a marker that came as it was sent is found
abbrev pub FindsSent : Layout → ℕ → Option ℕ → Type 0
FindsSent r window o = (l : ℕ) → l < r.lanes → window ≡ octets_number (r.octet l) 15 → o ≡ Some l
