-- What holds of every pair on the lanes of a rate. Assumes nothing.
use Rattle.std.specs.Prelude.{◌≡◌, ℕ, ◌+◌, ◌*◌, ◌%◌, ◌<◌, Bool, true, List, length, take, drop, Some}
use Rattle.bits.specs.Bits.{Binary, bit, table, nth}
use Rattle.blocks.specs.Groups.{read_back}
use Rattle.blocks.specs.Scrambled.{scrambled_bits, scrambler_after, descrambled_bits}
use Rattle.blocks.specs.Sound.{sound, Payloads}
use Rattle.blocks.specs.declared.block.Block.{Block}
use Rattle.code.specs.Code.{WellFormed, Codeword}
use Rattle.lanes.specs.Markers.{marker_bits}
use Rattle.lanes.specs.Rates.{Layout, pair_bits}
use Rattle.pairs.specs.Messages.{SentPair, block_size, pad_size, opening_size, group_count, group_at, message, sent_stream, sent_message, word}
use Rattle.pairs.specs.Places.{one_of, row_count, on_lane, in_word}
use Rattle.pairs.specs.Returns.{strip_bit, word_back, message_back, status_back, scrambled_back, stream_back, memory_back, pair_blocks_back, each_back}
use Rattle.pairs.specs.Strips.{pair_bit, strip_octets}
use Rattle.pairs.specs.declared.place.WordPlace.{WordPlace}
use Rattle.pairs.specs.declared.place.LanePlace.{LanePlace}

-- Each bit of each symbol of the two words stands at one bit of one lane, and each bit of a lane is one of them.
pub record OneToOne (lanes : ℕ) : Type 0 where
  pub there : (p : WordPlace) (q : LanePlace) → on_lane lanes p ≡ Some q → in_word lanes q ≡ Some p
  pub back : (q : LanePlace) (p : WordPlace) → in_word lanes q ≡ Some p → on_lane lanes p ≡ Some q
  pub stands : (p : WordPlace) (q : LanePlace) → on_lane lanes p ≡ Some q → (a b : List ℕ) (i : ℕ) → i < 10 → pair_bit lanes a b q.lane (10 * q.row + i) ≡ bit (nth (one_of p.word a b) p.index) i
  pub rows : pair_bits lanes ≡ 10 * row_count lanes

-- The first 120 bits on a lane of a pair that opens a marker period are the lane's marker.
abbrev pub MarkersLead : Layout → Type 0
MarkersLead r =
    (pads scrambled : List ℕ) (status l : ℕ) → l < r.lanes →
    table 120 (pair_bit r.lanes (word (message r true pads status scrambled) 0) (word (message r true pads status scrambled) 1) l) ≡ marker_bits r l

-- a pair that can be sent: pad bits that fill its marker block, a memory of bits, and blocks that fill its groups
pub record Sendable (lanes : ℕ) (p : SentPair) : Type 0 where
  pub pads : Binary p.pads
  pub pad_count : length p.pads ≡ pad_size lanes
  pub memory : Binary p.memory
  pub block_count : length p.blocks ≡ 4 * group_count lanes p.opens
  pub payloads : Payloads p.blocks

-- What comes back of a pair sent from its two words a and b.
pub record ComesBack (lanes : ℕ) (p : SentPair) (a b : List ℕ) : Type 0 where
  pub status : p.opens ≡ true → status_back lanes a b ≡ p.status % 8
  pub scrambled : scrambled_back lanes p.opens a b ≡ scrambled_bits p.memory (sent_stream lanes p)
  -- from the memory of the scrambler: the bits of the groups, and each group as it would come back by itself
  pub stream : stream_back lanes p.opens p.memory a b ≡ sent_stream lanes p
  pub blocks : pair_blocks_back lanes p.opens p.memory a b ≡ each_back (group_count lanes p.opens) p.blocks
  -- from any memory: the first group read with that memory, and from the second on as from the memory of the scrambler
  pub first_group : (m : List ℕ) → take 4 (pair_blocks_back lanes p.opens m a b) ≡ read_back (descrambled_bits m (take 257 (scrambled_bits p.memory (sent_stream lanes p))))
  pub later_groups : (m : List ℕ) → drop 4 (pair_blocks_back lanes p.opens m a b) ≡ drop 4 (each_back (group_count lanes p.opens) p.blocks)
  -- and the memory that is left is the scrambler's
  pub memory : (m : List ℕ) → memory_back lanes p.opens m a b ≡ scrambler_after p.memory (sent_stream lanes p)

-- Rows to words, words to message, message to status and groups, groups to blocks: each step is undone.
pub record WayBack (r : Layout) : Type 0 where
  pub bits : (a b : List ℕ) (l n : ℕ) → l < r.lanes → n < pair_bits r.lanes → strip_bit r.lanes (strip_octets r.lanes a b r.lanes) l n ≡ pair_bit r.lanes a b l n
  pub words : (a b : List ℕ) → WellFormed a → WellFormed b → (w : ℕ) → w < 2 → word_back r.lanes (pair_bit r.lanes a b) w ≡ one_of w a b
  -- behind what opens a pair stand the scrambled groups, whatever the pad bits and the groups are
  pub groups : (opens : Bool) (pads scrambled : List ℕ) (status : ℕ) → length pads + 120 * r.lanes + 3 ≡ block_size r.lanes → drop (opening_size r.lanes opens) (message r opens pads status scrambled) ≡ scrambled
  pub message : (bits : List ℕ) → Binary bits → length bits ≡ 10280 → message_back (word bits 0) (word bits 1) ≡ bits
  pub pair : (p : SentPair) → Sendable r.lanes p → ComesBack r.lanes p (word (sent_message r p) 0) (word (sent_message r p) 1)
  -- groups that are sound come back as they were sent
  pub sound : (n : ℕ) (bs : List Block) → length bs ≡ 4 * n → Payloads bs → ((g : ℕ) → g < n → sound (group_at bs g) ≡ true) → each_back n bs ≡ bs

-- the words of a message are codewords that carry its symbols
abbrev pub AreCodewords : Type 0
AreCodewords = (bits : List ℕ) (w : ℕ) → Binary bits → Codeword (word bits w)

pub record PairLaws (r : Layout) : Type 0 where
  -- each bit of each codeword symbol stands at one bit of one lane, and back
  pub places : OneToOne r.lanes
  -- a pair that opens a marker period begins on each lane with the lane's marker
  pub markers : MarkersLead r
  pub codewords : AreCodewords
  -- the blocks come back from the lanes
  pub back : WayBack r
