-- Cases that were worked out by hand, beside what the definitions give. Assumes nothing.
use Rattle.std.specs.Prelude.{◌≡◌, ℕ, if◌then◌else◌, List, [], ◌∷◌, replicate, Some, None, Option}
use Rattle.bits.specs.Bits.{field, table, nth}
use Rattle.blocks.specs.Groups.{group_bits, read_back, high_digit}
use Rattle.blocks.specs.Scrambled.{scrambled_bits}
use Rattle.blocks.specs.Sound.{among, payload_at}
use Rattle.blocks.specs.declared.block.Block.{Block}
use Rattle.blocks.specs.declared.block.Header.{Header}
use Rattle.blocks.specs.declared.block.Header.TheVariants.{Control, Data}
use Rattle.polynomials.specs.Product.{times}
use Rattle.lanes.specs.Letters.{layout_200, layout_400}
use Rattle.lanes.specs.Markers.{symbol_in, marker_bits, nibble_of, wrong, own}
use Rattle.lanes.specs.Pads.{pad_bit}
use Rattle.lanes.specs.Rates.{Layout}

abbrev pub some_of : Option ℕ → List ℕ
some_of None = []
some_of (Some x) = x ∷ []

abbrev pub block : Header → ℕ → Block
block h x = record { header = h; payload = x }

-- a control block of type 3E, and three data blocks
abbrev pub odd_type : List Block
odd_type = block Control 0x3E ∷ block Data 0 ∷ block Data 0 ∷ block Data 0 ∷ []

-- symbol k of the marker of every lane
abbrev pub symbols_of : Layout → ℕ → List ℕ
symbols_of r k = table r.lanes (λ l. symbol_in (marker_bits r l) k)

-- ones at these places
abbrev pub ones_at : List ℕ → ℕ → ℕ
ones_at places n = if among places n then 1 else 0

abbrev pub hand_cases : List (List ℕ × List ℕ)
hand_cases =
    -- products in the field
    (times 0x200 0x002 ∷ [], 0x009 ∷ []) ∷
    (times 0x204 0x002 ∷ [], 1 ∷ []) ∷
    -- the first two symbols of every marker
    (symbols_of layout_200 0, replicate 8 0x29A) ∷
    (symbols_of layout_200 1, replicate 8 0x192) ∷
    (symbols_of layout_400 0, replicate 16 0x29A) ∷
    (symbols_of layout_400 1, replicate 16 0x192) ∷
    -- a first type 3E comes back as 1E, and low digit 3 fits no type
    (payload_at 0 (read_back (group_bits odd_type)) ∷ [], 0x1E ∷ []) ∷
    (some_of (high_digit 3), []) ∷
    -- a single 1 scrambled on a memory of zeros
    (scrambled_bits (replicate 58 0) (1 ∷ replicate 116 0), table 117 (ones_at (0 ∷ 39 ∷ 58 ∷ 78 ∷ 116 ∷ []))) ∷
    -- the first pad bits from start 1FF
    (table 10 (pad_bit (nth (field 0x1FF 0 9))), 0 ∷ 0 ∷ 0 ∷ 0 ∷ 0 ∷ 1 ∷ 1 ∷ 1 ∷ 1 ∷ 0 ∷ []) ∷
    -- lanes 0 and 8 at 400 differ in 8 of the 12 nibbles
    (wrong (nibble_of (layout_400.octet 0)) (nibble_of (layout_400.octet 8)) own ∷ [], 8 ∷ []) ∷ []

abbrev pub Agree : List (List ℕ × List ℕ) → Type 0
Agree [] = Unit {0}
Agree (c ∷ cs) = (c.0 ≡ c.1) × Agree cs

-- the definitions give what was found by hand
abbrev pub HandChecked : Type 0
HandChecked = Agree hand_cases
