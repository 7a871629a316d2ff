-- What is sent of an input, a pair after the other, up to its end or to a pair that is refused. Assumes nothing.
use Rattle.std.specs.Prelude.{◌≡◌, ℕ, slice_get, zero, suc, ◌+◌, ◌*◌, ◌/◌, ◌<◌, List, [], ◌∷◌, ◌++◌, length, take, drop, None, Some, ⊤, MatchResult, Option, Result}
use Rattle.std.specs.Option.{option_map}
use Rattle.std.specs.Io.KnownBytes.{Consumes, IsAtEnd}
use Rattle.blocks.specs.declared.refusal.Refusal.{Refusal as BlockRefusal}
use Rattle.blocks.specs.declared.refusal.Refusal.TheVariants.{Length, Kind, Start}
use Rattle.lanes.specs.Rates.{Layout}
use Rattle.pairs.specs.Strips.{strip_of}
use Rattle.sender.specs.States.{SenderState, groups_of, blocks_due, pair_message, blocks_of, send_refused, sent_state}
use Rattle.commands.specs.declared.strips.Sent.{Sent}
use Rattle.sender.specs.declared.refusal.Refusal.{Refusal}
use Rattle.sender.specs.declared.refusal.Refusal.TheVariants.{Buffer, Blocks}

-- what was sent: the strips, first to last, how many pairs and blocks, why a pair behind them is refused, and the state
-- that the sender is left in
pub record Run : Type 0 where
  pub strips : List (List ℕ)
  pub pairs : ℕ
  pub blocks : ℕ
  pub refused : Option Refusal
  pub state : SenderState

-- a refused kind, with its place counted from n records before
abbrev pub kind_behind : ℕ → BlockRefusal → BlockRefusal
kind_behind n Length = Length
kind_behind n (Kind i) = Kind (n + i)
kind_behind n Start = Start

abbrev pub refusal_behind : ℕ → Refusal → Refusal
refusal_behind n Buffer = Buffer
refusal_behind n (Blocks e) = Blocks (kind_behind n e)

-- a run, and the one that goes on from there
abbrev pub joined : Run → Run → Run
joined a b = record { strips = a.strips ++ b.strips; pairs = a.pairs + b.pairs; blocks = a.blocks + b.blocks; refused = option_map (refusal_behind a.blocks) b.refused; state = b.state }

-- nothing more is sent: at the end, or since a pair is refused
abbrev pub stopped : SenderState → Option Refusal → Run
stopped s refused = record { strips = []; pairs = 0; blocks = 0; refused = refused; state = s }

-- the bytes of the next pair's records
abbrev pub bytes_due : Layout → SenderState → ℕ
bytes_due r s = 36 * groups_of r.lanes s

-- one pair of these records
abbrev pub pair_run : Layout → SenderState → List ℕ → Run
pair_run r s records =
    record {
      strips = strip_of r.lanes (pair_message r s (blocks_of (groups_of r.lanes s) records)) ∷ [];
      pairs = 1;
      blocks = blocks_due r.lanes s;
      refused = None;
      state = sent_state r s records 1360;
    }

-- a pair that is refused ends the run
abbrev pub unless_refused : Option Refusal → SenderState → Run → Run
unless_refused (Some e) s run = stopped s (Some e)
unless_refused None s run = run

-- at most m pairs of an input
unfoldable pub run : Layout → ℕ → SenderState → List ℕ → Run
run r zero s xs = stopped s None
run r (suc m) s [] = stopped s None
run r (suc m) s (x ∷ xs) =
    let records = take (bytes_due r s) (x ∷ xs) in
    unless_refused (send_refused (groups_of r.lanes s) records 1360) s (joined (pair_run r s records) (run r m (sent_state r s records 1360) (drop (bytes_due r s) (x ∷ xs))))

-- all that an input has
abbrev pub run_of : Layout → SenderState → List ℕ → Run
run_of r s input = run r (length input) s input

-- what is answered of a run, and the state of the sender behind it
abbrev pub Tells : Run → Sent → SenderState → Type 0
Tells run sent state = (sent.pairs ≡ run.pairs) × (sent.blocks ≡ run.blocks) × (sent.refused ≡ run.refused) × (state ≡ run.state)

-- the bytes of a strip on a lane
abbrev pub part_size : Layout → ℕ
part_size r = 1360 / r.lanes

-- lane l's part of a strip, and of strips one after another
abbrev pub lane_part : ℕ → List ℕ → ℕ → List ℕ
lane_part size strip l = take size (drop (size * l) strip)

unfoldable pub lane_bytes : ℕ → List (List ℕ) → ℕ → List ℕ
lane_bytes size [] l = []
lane_bytes size (strip ∷ strips) l = lane_part size strip l ++ lane_bytes size strips l

-- what lane l gets of an input
abbrev pub lane_of : Layout → SenderState → ℕ → List ℕ → List ℕ
lane_of r s l input = lane_bytes (part_size r) (run_of r s input).strips l

-- what holds of each writer, at first and now, by its number
abbrev pub EachLane : {W : Type 0} → List W → List W → (ℕ → W → W → Type 0) → Type 0
EachLane {W} old new P = (l : ℕ) (v w : W) → slice_get old l ≡ Some v → slice_get new l ≡ Some w → P l v w

-- the front of a buffer was filled, and as far as the bytes go
abbrev pub FillsFront : {E : Type 0} → Option (List ℕ) → Option (List ℕ) → Result ℕ E → ℕ → List ℕ → Type 0
FillsFront old new r size buf = MatchResult r (λ n. Consumes old new (take n buf) × (n < size → IsAtEnd new)) (λ _. ⊤)
