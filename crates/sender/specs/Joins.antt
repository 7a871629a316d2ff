-- What a sender has sent: the strips and the blocks of its accepted sends, joined. Assumes nothing.
use Rattle.std.specs.Prelude.{◌≡◌, ℕ, zero, suc, ◌+◌, ◌*◌, ◌/◌, ◌%◌, ◌<◌, Bool, if◌then◌else◌, List, [], ◌∷◌, ◌++◌, length, take, drop, is_some, ◌==◌, slice_index_or}
use Rattle.bits.specs.Bits.{field, table, nth}
use Rattle.blocks.specs.Groups.{one_if}
use Rattle.blocks.specs.Scrambled.{scrambled_bits, scrambler_after}
use Rattle.blocks.specs.declared.block.Block.{Block}
use Rattle.lanes.specs.Pads.{pad_bit}
use Rattle.lanes.specs.Rates.{Layout, pair_bits}
use Rattle.pairs.specs.Laws.{Sendable, ComesBack}
use Rattle.pairs.specs.Messages.{SentPair, pad_size, group_count, group_stream, message, sent_message, word}
use Rattle.pairs.specs.Returns.{strip_bit, word_back}
use Rattle.pairs.specs.Strips.{pair_bit, strip_of}
use Rattle.sender.specs.States.{SenderState, started, groups_of, send_refused, blocks_of, sent_strip, sent_state}

-- a send: the records and the strip buffer given
pub record Send : Type 0 where
  pub records : List ℕ
  pub buffer : List ℕ

-- the start values of a sender
pub record Start : Type 0 where
  pub scramble : ℕ
  pub pad : ℕ
  pub status : ℕ

-- Nth pairs from the first open a marker period
abbrev pub opens_at : ℕ → ℕ → Bool
opens_at pairs p = p % pairs == 0

abbrev pub groups_at : Layout → ℕ → ℕ
groups_at r p = group_count r.lanes (opens_at r.pairs p)

-- the groups, and the marker blocks, of the pairs before pair p
unfoldable pub groups_before : Layout → ℕ → ℕ
groups_before r zero = 0
groups_before r (suc p) = groups_before r p + groups_at r p

unfoldable pub markers_before : ℕ → ℕ → ℕ
markers_before pairs zero = 0
markers_before pairs (suc p) = markers_before pairs p + one_if (opens_at pairs p)

-- the records of the accepted sends, of which the first is pair p; refused ones add nothing
unfoldable pub accepted_records : Layout → ℕ → List Send → List (List ℕ)
accepted_records r p [] = []
accepted_records r p (c ∷ cs) =
    if is_some (send_refused (groups_at r p) c.records (length c.buffer)) then accepted_records r p cs else c.records ∷ accepted_records r (suc p) cs

abbrev pub all_of : List (List ℕ) → List ℕ
all_of [] = []
all_of (xs ∷ xss) = xs ++ all_of xss

-- how many pairs were sent, and all their blocks
abbrev pub pairs_sent : Layout → List Send → ℕ
pairs_sent r cs = length (accepted_records r 0 cs)

unfoldable pub sent_blocks : Layout → List Send → List Block
sent_blocks r cs = blocks_of (groups_before r (pairs_sent r cs)) (all_of (accepted_records r 0 cs))

-- All groups ever sent are one scrambled stream, never restarted, and all pad bits go on from marker block to marker block.
unfoldable pub whole_stream : Layout → Start → List Send → List ℕ
whole_stream r st cs = scrambled_bits (field st.scramble 0 58) (group_stream (sent_blocks r cs) (groups_before r (pairs_sent r cs)))

-- the pad bits of pair p, where it opens a period
abbrev pub pads_at : Layout → Start → ℕ → List ℕ
pads_at r st p = table (pad_size r.lanes) (λ j. pad_bit (nth (field st.pad 0 9)) (pad_size r.lanes * markers_before r.pairs p + j))

-- the message of pair p: its part of the pad bits and of the stream
unfoldable pub message_at : Layout → Start → List Send → ℕ → List ℕ
message_at r st cs p = message r (opens_at r.pairs p) (pads_at r st p) st.status (take (257 * groups_at r p) (drop (257 * groups_before r p) (whole_stream r st cs)))

-- The strips that a sender writes, one send after another: what each accepted send writes into its buffer.
unfoldable pub strips_from : Layout → SenderState → List Send → List (List ℕ)
strips_from r s [] = []
strips_from r s (c ∷ cs) =
    if is_some (send_refused (groups_of r.lanes s) c.records (length c.buffer)) then strips_from r (sent_state r s c.records (length c.buffer)) cs
    else take 1360 (sent_strip r s c.records c.buffer) ∷ strips_from r (sent_state r s c.records (length c.buffer)) cs

-- those of a sender from its start values
abbrev pub strips_of : Layout → Start → List Send → List (List ℕ)
strips_of r st cs = strips_from r (started st.scramble st.pad st.status) cs

-- n of them from the p-th on, by the messages
unfoldable pub strips_at : ℕ → (ℕ → List ℕ) → ℕ → ℕ → List (List ℕ)
strips_at lanes f p zero = []
strips_at lanes f p (suc n) = strip_of lanes (f p) ∷ strips_at lanes f (suc p) n

-- The strips of a sender's accepted sends are those of the sends joined.
abbrev pub SendsJoin : Layout → Type 0
SendsJoin r = (st : Start) (cs : List Send) → strips_of r st cs ≡ strips_at r.lanes (message_at r st cs) 0 (pairs_sent r cs)

-- bit n of lane l over strips one after another
unfoldable pub lane_bit : ℕ → List (List ℕ) → ℕ → ℕ → ℕ
lane_bit lanes strips l n = strip_bit lanes (slice_index_or strips (n / pair_bits lanes) []) l (n % pair_bits lanes)

-- Bit n of a lane, over all accepted sends, is a bit of the words of the message of its pair.
abbrev pub LanesJoin : Layout → Type 0
LanesJoin r =
    (st : Start) (cs : List Send) (l p n : ℕ) → l < r.lanes → p < pairs_sent r cs → n < pair_bits r.lanes →
    lane_bit r.lanes (strips_of r st cs) l (pair_bits r.lanes * p + n) ≡ pair_bit r.lanes (word (message_at r st cs p) 0) (word (message_at r st cs p) 1) l n

-- pair p by itself: with the memory that the groups before it left, and its own blocks
abbrev pub pair_at : Layout → Start → List Send → ℕ → SentPair
pair_at r st cs p =
    record {
      opens = opens_at r.pairs p;
      pads = pads_at r st p;
      status = st.status;
      memory = scrambler_after (field st.scramble 0 58) (group_stream (sent_blocks r cs) (groups_before r p));
      blocks = take (4 * groups_at r p) (drop (4 * groups_before r p) (sent_blocks r cs));
    }

-- Of each pair that was sent, the words come back from the lanes' bits, and what it carries from the words.
pub record PairReturns (r : Layout) (st : Start) (cs : List Send) (p : ℕ) : Type 0 where
  pub sendable : Sendable r.lanes (pair_at r st cs p)
  pub sent : message_at r st cs p ≡ sent_message r (pair_at r st cs p)
  pub words : (w : ℕ) → w < 2 → word_back r.lanes (λ l n. lane_bit r.lanes (strips_of r st cs) l (pair_bits r.lanes * p + n)) w ≡ word (message_at r st cs p) w
  pub carried : ComesBack r.lanes (pair_at r st cs p) (word (message_at r st cs p) 0) (word (message_at r st cs p) 1)

abbrev pub PairsReturn : Layout → Type 0
PairsReturn r = (st : Start) (cs : List Send) (p : ℕ) → p < pairs_sent r cs → PairReturns r st cs p
