-- What the command `groups` prints of an input. Assumes nothing.
use Rattle.std.specs.Prelude.{◌≡◌, ℕ, zero, suc, ◌*◌, if◌then◌else◌, List, [], ◌∷◌, ◌++◌, length, take, drop, codes, is_some, Some, None, Ok, Err, Option, Result}
use Rattle.blocks.specs.declared.refusal.Refusal.{Refusal}
use Rattle.blocks.specs.declared.refusal.Refusal.TheVariants.{Length, Kind}
use Rattle.blocks.specs.Blocks.{blocks_in}
use Rattle.blocks.specs.Groups.{group_bits, group_octets}
use Rattle.blocks.specs.Records.{Item, data_item, control_item, bad_item, note_item, look}
use Rattle.commands.specs.Walks.{behind}
use Rattle.blocks.specs.Refusals.{text_of}
use Rattle.commands.specs.Lines.{line_of}

-- a pair note is no block
abbrev pub unwanted : ℕ → Item → Option Refusal
unwanted index (data_item body) = None
unwanted index (control_item body) = None
unwanted index (bad_item ones body) = None
unwanted index (note_item body) = Some (Kind index)

-- where a block is to stand: why what a reader finds there is refused
abbrev pub no_block : Result (Option (ℕ × Item)) Refusal → Option Refusal
no_block (Ok None) = Some Length
no_block (Ok (Some r)) = unwanted r.0 r.1
no_block (Err refusal) = Some refusal

abbrev pub first_of : Option Refusal → Option Refusal → Option Refusal
first_of None later = later
first_of (Some refusal) later = Some refusal

-- where n blocks are to stand, from record `index` on: why the first record that is none is refused
unfoldable pub first_refused : ℕ → ℕ → List ℕ → Option Refusal
first_refused zero index xs = None
first_refused (suc n) index xs = first_of (no_block (look index xs)) (first_refused n (suc index) (behind xs))

-- what four blocks have, or what there is of it
abbrev pub four : List ℕ → List ℕ
four xs = take 36 xs

-- how many groups of four blocks an input begins with, m at most
unfoldable pub group_count : ℕ → List ℕ → ℕ
group_count zero xs = 0
group_count (suc m) xs = if is_some (first_refused 4 0 (four xs)) then 0 else suc (group_count m (drop 36 xs))

-- the lines of its first n groups
unfoldable pub lines : ℕ → List ℕ → List ℕ
lines zero xs = []
lines (suc n) xs = line_of (group_octets (group_bits (blocks_in 4 (four xs)))) ++ lines n (drop 36 xs)

-- behind n groups: nothing, or why a group of four more is refused
abbrev pub refusal_behind : ℕ → List ℕ → Option Refusal
refusal_behind n [] = None
refusal_behind n (x ∷ xs) = first_refused 4 (4 * n) (four (x ∷ xs))

-- all groups that the input begins with, and why it is refused behind them, if it is
abbrev pub groups_of : List ℕ → ℕ
groups_of input = group_count (length input) input

abbrev pub refusal_of : List ℕ → Option Refusal
refusal_of input = refusal_behind (groups_of input) (drop (36 * groups_of input) input)

abbrev pub last_line : Option Refusal → List ℕ
last_line None = []
last_line (Some refusal) = text_of refusal ++ 10 ∷ []

-- 257, a line a group, and the refusal
abbrev pub first_line : List ℕ
first_line = codes "257\n"

abbrev pub printed : List ℕ → List ℕ
printed input = first_line ++ (lines (groups_of input) input ++ last_line (refusal_of input))

-- the answer of a run that could read and write
abbrev pub Answers : {E : Type 0} → Option (List ℕ) → Result (Option Refusal) E → Type 0
Answers None r = Unit {0}
Answers (Some input) (Ok refusal) = refusal ≡ refusal_of input
Answers (Some input) (Err e) = Unit {0}
