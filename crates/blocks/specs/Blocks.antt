-- Blocks: two header bits and 64 payload bits. Assumes nothing.
use Rattle.std.specs.Prelude.{◌≡◌, ℕ, zero, suc, ◌+◌, ◌*◌, ◌<◌, Bool, true, false, if◌then◌else◌, List, [], ◌∷◌, ◌++◌, take, drop, ◌==◌, Result, MatchResult, slice_index}
use Rattle.bits.specs.Bits.{field, number, octet_bits, octets}
use Rattle.blocks.specs.declared.block.Header.{Header}
use Rattle.blocks.specs.declared.block.Header.TheVariants.{Zeros, Control, Data, Ones}
use Rattle.blocks.specs.declared.block.Block.{Block}
use Rattle.blocks.specs.declared.block.UnknownKind.{UnknownKind}

-- the header bits as sent
abbrev pub first_bit : Header → ℕ
first_bit Zeros = 0
first_bit Control = 1
first_bit Data = 0
first_bit Ones = 1

abbrev pub second_bit : Header → ℕ
second_bit Zeros = 0
second_bit Control = 0
second_bit Data = 1
second_bit Ones = 1

-- a good header has one 0 and one 1
abbrev pub good : Header → Bool
good Zeros = false
good Control = true
good Data = true
good Ones = false

abbrev pub is_control : Header → Bool
is_control Zeros = false
is_control Control = true
is_control Data = false
is_control Ones = false

abbrev pub payload_bits : Block → List ℕ
payload_bits b = field b.payload 0 64

-- A block record is a kind, the first header bit plus two times the second, and the payload's eight octets.
abbrev pub kind_of : Header → ℕ
kind_of h = first_bit h + 2 * second_bit h

abbrev pub header_of : ℕ → Header
header_of k = if k == 0 then Zeros else if k == 1 then Control else if k == 2 then Data else Ones

-- the result is the header with this kind, or an error with a kind that no header has
abbrev pub Decodes : ℕ → Result Header UnknownKind → Type 0
Decodes kind r = MatchResult r (λ h. kind_of h ≡ kind) (λ e. (e.0 ≡ kind) × (3 < kind))

abbrev pub record_of : Block → List ℕ
record_of b = kind_of b.header ∷ octets 8 (payload_bits b)

abbrev pub block_in : List ℕ → Block
block_in xs = record { header = header_of (slice_index xs 0); payload = number (octet_bits (take 8 (drop 1 xs))) }

-- the result is the block of this record, or an error with its kind, which no header has
abbrev pub DecodesRecord : List ℕ → Result Block UnknownKind → Type 0
DecodesRecord xs r = MatchResult r (λ b. (slice_index xs 0 < 4) × (b ≡ block_in xs)) (λ e. (e.0 ≡ slice_index xs 0) × (3 < slice_index xs 0))

-- records one after another, and the first n blocks of them
unfoldable pub records_of : List Block → List ℕ
records_of [] = []
records_of (b ∷ bs) = record_of b ++ records_of bs

unfoldable pub blocks_in : ℕ → List ℕ → List Block
blocks_in zero xs = []
blocks_in (suc n) xs = block_in xs ∷ blocks_in n (drop 9 xs)
