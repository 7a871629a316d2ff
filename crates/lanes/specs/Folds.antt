-- The two parts of a marker, and each nibble folded to its lowest bit: what private functions of the marker test compute.
-- Assumes nothing.
use Rattle.std.specs.Prelude.{ℕ, ◌+◌, ◌*◌, ◌/◌, ◌^◌, List, [], ◌∷◌, bit_or}
use Rattle.lanes.specs.Markers.{shared, own}
use Rattle.lanes.specs.declared.marker.Part.{Part}
use Rattle.lanes.specs.declared.marker.Part.TheVariants.{Shared, Own}

abbrev pub octets_of : Part → List ℕ
octets_of Shared = shared
octets_of Own = own

-- the lowest bit of each nibble of these octets
abbrev pub lowest_bits : List ℕ → ℕ
lowest_bits [] = 0
lowest_bits (o ∷ os) = 0x11 * 256 ^ o + lowest_bits os

-- the lowest bit of a nibble is then 1 if some bit of the nibble was
abbrev pub folded : ℕ → ℕ
folded x = bit_or (bit_or x (x / 2)) (bit_or x (x / 2) / 4)
