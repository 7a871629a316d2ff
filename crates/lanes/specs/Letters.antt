-- The letters a, b, u, v, w of each lane's marker, and the layouts of the three rates. Assumes nothing.
use Rattle.std.specs.Prelude.{◌≡◌, ℕ, List, [], ◌∷◌, length, slice_index_or}
use Rattle.bits.specs.Bits.{nth}
use Rattle.lanes.specs.Markers.{marker_with}
use Rattle.lanes.specs.Rates.{Layout, marker_period}

abbrev pub letters_eight : List (List ℕ)
letters_eight =
    (0x05 ∷ 0xD6 ∷ 0xB3 ∷ 0xC0 ∷ 0x8C ∷ []) ∷
    (0x04 ∷ 0x67 ∷ 0x5A ∷ 0xDE ∷ 0x7E ∷ []) ∷
    (0x46 ∷ 0xFE ∷ 0x3E ∷ 0xF3 ∷ 0x56 ∷ []) ∷
    (0x5A ∷ 0x84 ∷ 0x86 ∷ 0x80 ∷ 0xD0 ∷ []) ∷
    (0xE1 ∷ 0x19 ∷ 0x2A ∷ 0x51 ∷ 0xF2 ∷ []) ∷
    (0xF2 ∷ 0x4E ∷ 0x12 ∷ 0x4F ∷ 0xD1 ∷ []) ∷
    (0x3D ∷ 0xEE ∷ 0x42 ∷ 0x9C ∷ 0xA1 ∷ []) ∷
    (0x22 ∷ 0x32 ∷ 0xD6 ∷ 0x76 ∷ 0x5B ∷ []) ∷ []

abbrev pub letters_sixteen : List (List ℕ)
letters_sixteen =
    (0xB6 ∷ 0xD9 ∷ 0x01 ∷ 0x71 ∷ 0xF3 ∷ []) ∷
    (0x04 ∷ 0x67 ∷ 0x5A ∷ 0xDE ∷ 0x7E ∷ []) ∷
    (0x46 ∷ 0xFE ∷ 0x3E ∷ 0xF3 ∷ 0x56 ∷ []) ∷
    (0x5A ∷ 0x84 ∷ 0x86 ∷ 0x80 ∷ 0xD0 ∷ []) ∷
    (0xE1 ∷ 0x19 ∷ 0x2A ∷ 0x51 ∷ 0xF2 ∷ []) ∷
    (0xF2 ∷ 0x4E ∷ 0x12 ∷ 0x4F ∷ 0xD1 ∷ []) ∷
    (0x3D ∷ 0xEE ∷ 0x42 ∷ 0x9C ∷ 0xA1 ∷ []) ∷
    (0x22 ∷ 0x32 ∷ 0xD6 ∷ 0x76 ∷ 0x5B ∷ []) ∷
    (0x60 ∷ 0x9F ∷ 0xE1 ∷ 0x73 ∷ 0x75 ∷ []) ∷
    (0x6B ∷ 0xA2 ∷ 0x71 ∷ 0xC4 ∷ 0x3C ∷ []) ∷
    (0xFA ∷ 0x04 ∷ 0x95 ∷ 0xEB ∷ 0xD8 ∷ []) ∷
    (0x6C ∷ 0x71 ∷ 0x22 ∷ 0x66 ∷ 0x38 ∷ []) ∷
    (0x18 ∷ 0x5B ∷ 0xA2 ∷ 0xF6 ∷ 0x95 ∷ []) ∷
    (0x14 ∷ 0xCC ∷ 0x31 ∷ 0x97 ∷ 0xC3 ∷ []) ∷
    (0xD0 ∷ 0xB1 ∷ 0xCA ∷ 0xFB ∷ 0xA6 ∷ []) ∷
    (0xB4 ∷ 0x56 ∷ 0xA6 ∷ 0xBA ∷ 0x79 ∷ []) ∷ []

-- the marker of five letters
abbrev pub marker_from : List ℕ → List ℕ
marker_from ls = marker_with (nth ls 0) (nth ls 1) (nth ls 2) (nth ls 3) (nth ls 4)

-- octet i of the marker of lane l
abbrev pub octet_in : List (List ℕ) → ℕ → ℕ → ℕ
octet_in t l i = nth (marker_from (slice_index_or t l [])) i

-- as many lanes as the table has letters for
abbrev pub layout_of : List (List ℕ) → ℕ → Layout
layout_of t pairs = record { lanes = length t; pairs = pairs; octet = octet_in t }

abbrev pub layout_200 : Layout
layout_200 = layout_of letters_eight 2048

abbrev pub layout_400 : Layout
layout_400 = layout_of letters_sixteen 4096

-- for tests: short periods
abbrev pub layout_short : Layout
layout_short = layout_of letters_eight 16

-- the ticks from one marker of a lane to the next at each
abbrev pub ThreePeriods : Type 0
ThreePeriods = (marker_period layout_200 ≡ 2785280) × (marker_period layout_400 ≡ 2785280) × (marker_period layout_short ≡ 21760)
