-- Groups of 257 bits: four blocks written, and read back. Assumes nothing.
use Rattle.std.specs.Prelude.{ℕ, suc, ◌+◌, ◌*◌, ◌/◌, ◌%◌, Bool, true, false, if◌then◌else◌, List, [], ◌∷◌, ◌++◌, map, take, drop, Some, None, Option, ◌==◌, slice_index, slice_set}
use Rattle.bits.specs.Bits.{bit, field, number, octet_bits, octets}
use Rattle.blocks.specs.Blocks.{second_bit, good, is_control, payload_bits}
use Rattle.blocks.specs.declared.block.Header.{Header}
use Rattle.blocks.specs.declared.block.Header.TheVariants.{Zeros, Control, Data, Ones}
use Rattle.blocks.specs.declared.block.Block.{Block}
use Rattle.blocks.specs.declared.group.Group.{Group}

abbrev pub headers : List Block → List Header
headers [] = []
headers (b ∷ bs) = b.header ∷ headers bs

-- the payloads in order
abbrev pub payloads : List Block → List ℕ
payloads [] = []
payloads (b ∷ bs) = payload_bits b ++ payloads bs

abbrev pub all_good : List Header → Bool
all_good [] = true
all_good (h ∷ hs) = if good h then all_good hs else false

abbrev pub some_control : List Header → Bool
some_control [] = false
some_control (h ∷ hs) = if is_control h then true else some_control hs

-- the place of the first control block
abbrev pub first_control_place : List Header → ℕ
first_control_place [] = 0
first_control_place (h ∷ hs) = if is_control h then 0 else suc (first_control_place hs)

-- s without its four bits from bit p on
abbrev pub without : ℕ → List ℕ → List ℕ
without p s = take p s ++ drop (p + 4) s

-- s with the four bits of d put in before bit p
abbrev pub with_digit_at : ℕ → ℕ → List ℕ → List ℕ
with_digit_at p d s = take p s ++ (field d 0 4 ++ drop p s)

-- Bit 0 is 1 where all four are data, and the payloads follow. Else it is 0, and four flags follow: the second header
-- bits, and then the payloads without the high digit of the first control block's type; or, where a header is bad,
-- four ones, and the payloads without the same four bits of the first block.
unfoldable pub group_bits : List Block → List ℕ
group_bits bs =
    if all_good (headers bs)
    then (if some_control (headers bs) then 0 ∷ (map second_bit (headers bs) ++ without (64 * first_control_place (headers bs) + 4) (payloads bs)) else 1 ∷ payloads bs)
    else 0 ∷ 1 ∷ 1 ∷ 1 ∷ 1 ∷ without 4 (payloads bs)

-- the types of control blocks: the first octet of the payload, whose low digit is sent first
unfoldable pub types : List ℕ
types = 0x1E ∷ 0x78 ∷ 0x4B ∷ 0x87 ∷ 0x99 ∷ 0xAA ∷ 0xB4 ∷ 0xCC ∷ 0xD2 ∷ 0xE1 ∷ 0xFF ∷ []

-- the high digit of the type in ts whose low digit is d
abbrev pub fitting : List ℕ → ℕ → Option ℕ
fitting [] d = None
fitting (t ∷ ts) d = if t % 16 == d then Some (t / 16) else fitting ts d

unfoldable pub high_digit : ℕ → Option ℕ
high_digit d = fitting types d

-- flag 0 is a control block, flag 1 a data block
abbrev pub flagged : ℕ → Header
flagged f = if f == 0 then Control else Data

abbrev pub some_zero : List ℕ → Bool
some_zero [] = false
some_zero (f ∷ fs) = if f == 0 then true else some_zero fs

abbrev pub first_zero_place : List ℕ → ℕ
first_zero_place [] = 0
first_zero_place (f ∷ fs) = if f == 0 then 0 else suc (first_zero_place fs)

-- blocks with these headers, whose payloads are the bits s
abbrev pub blocks_under : List Header → List ℕ → List Block
blocks_under [] s = []
blocks_under (h ∷ hs) s = record { header = h; payload = number (take 64 s) } ∷ blocks_under hs (drop 64 s)

-- Flag c is the first 0, and `rest` are the bits behind the flags: the type's high digit goes back in where one fits;
-- else four zeros do, and block c gets header 11.
unfoldable pub control_back : List ℕ → ℕ → List ℕ → Option ℕ → List Block
control_back flags c rest (Some d) = blocks_under (map flagged flags) (with_digit_at (64 * c + 4) d rest)
control_back flags c rest None = blocks_under (slice_set (map flagged flags) c Ones) (with_digit_at (64 * c + 4) 0 rest)

unfoldable pub flags_back : List ℕ → List ℕ → List Block
flags_back flags rest =
    if some_zero flags
    then control_back flags (first_zero_place flags) rest (high_digit (number (take 4 (drop (64 * first_zero_place flags) rest))))
    else blocks_under (Zeros ∷ Ones ∷ Zeros ∷ Ones ∷ []) (with_digit_at 4 0 rest)

-- four blocks from 257 bits
unfoldable pub read_back : List ℕ → List Block
read_back g =
    if slice_index g 0 == 1 then blocks_under (Data ∷ Data ∷ Data ∷ Data ∷ []) (drop 1 g) else flags_back (take 4 (drop 1 g)) (drop 5 g)

-- 64-bit parts as bits
abbrev pub words : List ℕ → List ℕ
words [] = []
words (x ∷ xs) = field x 0 64 ++ words xs

abbrev pub one_if : Bool → ℕ
one_if true = 1
one_if false = 0

-- the 257 bits of a group
abbrev pub bits_of : Group → List ℕ
bits_of g = one_if g.first ∷ words g.parts

-- In a buffer a group is a byte whose lowest bit is bit 0, then 32 octets.
abbrev pub group_bits_in : List ℕ → List ℕ
group_bits_in xs = bit (slice_index xs 0) 0 ∷ octet_bits (drop 1 xs)

abbrev pub group_octets : List ℕ → List ℕ
group_octets g = slice_index g 0 ∷ octets 32 (drop 1 g)
