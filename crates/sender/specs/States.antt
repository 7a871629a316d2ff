-- A sender's state, and what a send makes of it. Assumes nothing.
use Rattle.std.specs.Prelude.{ℕ, ◌+◌, ◌*◌, ◌%◌, Bool, if◌then◌else◌, List, ◌++◌, length, drop, is_some, Some, None, Ok, Err, Option, Result, ◌==◌, nat_lt}
use Rattle.std.specs.Option.{option_map}
use Rattle.bits.specs.Bits.{field, table, nth}
use Rattle.blocks.specs.Blocks.{blocks_in}
use Rattle.blocks.specs.Calls.{bad_kind}
use Rattle.blocks.specs.Scrambled.{scrambler_after}
use Rattle.blocks.specs.declared.block.Block.{Block}
use Rattle.blocks.specs.declared.refusal.Refusal.TheVariants.{Length, Kind}
use Rattle.lanes.specs.Pads.{pad_before, pad_bit}
use Rattle.lanes.specs.Rates.{Layout}
use Rattle.pairs.specs.Messages.{SentPair, pad_size, group_count, sent_stream, sent_message}
use Rattle.pairs.specs.Strips.{strip_of}
use Rattle.sender.specs.declared.refusal.Refusal.{Refusal}
use Rattle.sender.specs.declared.refusal.Refusal.TheVariants.{Buffer, Blocks}

-- What a sender keeps: the last 58 scrambled bits and the last nine pad bits, the newest first; the status; and which pair
-- of its marker period comes next.
pub record SenderState : Type 0 where
  pub scrambler : List ℕ
  pub pad : List ℕ
  pub status : ℕ
  pub index : ℕ

-- A sender before its first pair. Bit k - 1 of a start is the bit k before the first.
abbrev pub started : ℕ → ℕ → ℕ → SenderState
started scramble pad status = record { scrambler = field scramble 0 58; pad = field pad 0 9; status = status; index = 0 }

-- the next pair opens a marker period
abbrev pub opens : SenderState → Bool
opens s = s.index == 0

-- the groups of the next pair, and its blocks
abbrev pub groups_of : ℕ → SenderState → ℕ
groups_of lanes s = group_count lanes (opens s)

abbrev pub blocks_due : ℕ → SenderState → ℕ
blocks_due lanes s = 4 * groups_of lanes s

-- the next pair, of these blocks, and its message
abbrev pub next_pair : ℕ → SenderState → List Block → SentPair
next_pair lanes s bs = record { opens = opens s; pads = table (pad_size lanes) (pad_bit (nth s.pad)); status = s.status; memory = s.scrambler; blocks = bs }

abbrev pub pair_message : Layout → SenderState → List Block → List ℕ
pair_message r s bs = sent_message r (next_pair r.lanes s bs)

-- The scrambler goes on from pair to pair, the pad from marker block to marker block.
unfoldable pub pad_after : ℕ → Bool → List ℕ → List ℕ
pad_after lanes opens pad = if opens then table 9 (pad_before (nth pad) (pad_size lanes)) else pad

-- the state behind what opens the next pair, and behind the pair
abbrev pub opened_state : ℕ → SenderState → SenderState
opened_state lanes s = record { scrambler = s.scrambler; pad = pad_after lanes (opens s) s.pad; status = s.status; index = s.index }

unfoldable pub state_after : Layout → SenderState → List Block → SenderState
state_after r s bs =
    record {
      scrambler = scrambler_after s.scrambler (sent_stream r.lanes (next_pair r.lanes s bs));
      pad = pad_after r.lanes (opens s) s.pad;
      status = s.status;
      index = (s.index + 1) % r.pairs;
    }

-- Why records are refused: a wrong count of bytes, or a kind above 3; and a send: a strip buffer that is too small comes first.
unfoldable pub records_refused : ℕ → List ℕ → Option Refusal
records_refused groups records = if length records == 36 * groups then option_map (λ i. Blocks (Kind i)) (bad_kind records) else Some (Blocks Length)

unfoldable pub send_refused : ℕ → List ℕ → ℕ → Option Refusal
send_refused groups records room = if nat_lt room 1360 then Some Buffer else records_refused groups records

-- a send answers the bytes written
abbrev pub send_answer : Option Refusal → Result ℕ Refusal
send_answer None = Ok 1360
send_answer (Some e) = Err e

-- the blocks of a pair's records
abbrev pub blocks_of : ℕ → List ℕ → List Block
blocks_of groups records = blocks_in (4 * groups) records

-- the strip buffer and the state after a send; a refused one leaves both
unfoldable pub sent_strip : Layout → SenderState → List ℕ → List ℕ → List ℕ
sent_strip r s records strip =
    if is_some (send_refused (groups_of r.lanes s) records (length strip)) then strip
    else strip_of r.lanes (pair_message r s (blocks_of (groups_of r.lanes s) records)) ++ drop 1360 strip

unfoldable pub sent_state : Layout → SenderState → List ℕ → ℕ → SenderState
sent_state r s records room = if is_some (send_refused (groups_of r.lanes s) records room) then s else state_after r s (blocks_of (groups_of r.lanes s) records)
