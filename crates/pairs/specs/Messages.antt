-- A pair's message of 10,280 bits, and its two codewords. Assumes nothing.
use Rattle.std.specs.Prelude.{ℕ, zero, suc, ◌+◌, ◌-◌, ◌*◌, ◌/◌, ◌%◌, Bool, if◌then◌else◌, List, [], ◌++◌, length, take, drop, ◌==◌}
use Rattle.bits.specs.Bits.{field, table}
use Rattle.blocks.specs.Groups.{group_bits}
use Rattle.blocks.specs.Scrambled.{scrambled_bits}
use Rattle.blocks.specs.declared.block.Block.{Block}
use Rattle.code.specs.Code.{codeword_of}
use Rattle.lanes.specs.Markers.{symbol_in, marker_bits}
use Rattle.lanes.specs.Rates.{Layout}

-- bits put behind those of a message, as far as it has room
abbrev pub message_with : List ℕ → List ℕ → List ℕ
message_with bits more = bits ++ take (10280 - length bits) more

-- n symbols one after another, ten bits each, the lowest first
unfoldable pub symbol_bits : ℕ → (ℕ → ℕ) → List ℕ
symbol_bits zero f = []
symbol_bits (suc n) f = symbol_bits n f ++ field (f n) 0 10

-- lanes 2j and 2j + 1 are partners
abbrev pub partner : ℕ → ℕ
partner l = if l % 2 == 0 then l + 1 else l - 1

-- The lane whose marker has a symbol at this column of this row of a marker block: in odd rows partners are exchanged.
abbrev pub marker_lane : ℕ → ℕ → ℕ
marker_lane row column = if row % 2 == 0 then column else partner column

-- symbol m of a marker block: row k has symbol k of every lane's marker
unfoldable pub marker_block_symbol : Layout → ℕ → ℕ
marker_block_symbol r m = symbol_in (marker_bits r (marker_lane (m / r.lanes) (m % r.lanes))) (m / r.lanes)

-- A marker block takes the room of W/2 groups. Behind twelve rows of marker symbols come pad bits, and three bits of status.
abbrev pub block_size : ℕ → ℕ
block_size lanes = 257 * (lanes / 2)

abbrev pub pad_size : ℕ → ℕ
pad_size lanes = block_size lanes - 120 * lanes - 3

unfoldable pub marker_block : Layout → List ℕ → ℕ → List ℕ
marker_block r pads status = symbol_bits (12 * r.lanes) (marker_block_symbol r) ++ (pads ++ field status 0 3)

-- what opens a pair: a marker block, where the pair opens a marker period
unfoldable pub opening : Layout → Bool → List ℕ → ℕ → List ℕ
opening r opens pads status = if opens then marker_block r pads status else []

abbrev pub opening_size : ℕ → Bool → ℕ
opening_size lanes opens = if opens then block_size lanes else 0

-- a pair's groups: forty, less those whose room the marker block takes
abbrev pub group_count : ℕ → Bool → ℕ
group_count lanes opens = if opens then 40 - lanes / 2 else 40

-- the four blocks of group g, and the bits of the first n groups
abbrev pub group_at : List Block → ℕ → List Block
group_at bs g = take 4 (drop (4 * g) bs)

unfoldable pub group_stream : List Block → ℕ → List ℕ
group_stream bs zero = []
group_stream bs (suc n) = group_stream bs n ++ group_bits (group_at bs n)

-- A message: what opens the pair, and the scrambled groups.
unfoldable pub message : Layout → Bool → List ℕ → ℕ → List ℕ → List ℕ
message r opens pads status scrambled = opening r opens pads status ++ scrambled

-- A pair as it is sent: whether it opens a marker period, the pad bits and the status of its marker block, the scrambler's
-- memory before it, and its blocks.
pub record SentPair : Type 0 where
  pub opens : Bool
  pub pads : List ℕ
  pub status : ℕ
  pub memory : List ℕ
  pub blocks : List Block

-- the bits of its groups, and its message
abbrev pub sent_stream : ℕ → SentPair → List ℕ
sent_stream lanes p = group_stream p.blocks (group_count lanes p.opens)

unfoldable pub sent_message : Layout → SentPair → List ℕ
sent_message r p = message r p.opens p.pads p.status (scrambled_bits p.memory (sent_stream r.lanes p))

-- symbol x of word A, 0, or of word B, 1: even symbols of the message go to A, odd ones to B
abbrev pub word_symbol : List ℕ → ℕ → ℕ → ℕ
word_symbol bits w x = symbol_in bits (2 * x + w)

-- its codeword
unfoldable pub word : List ℕ → ℕ → List ℕ
word bits w = codeword_of (table 514 (word_symbol bits w))
