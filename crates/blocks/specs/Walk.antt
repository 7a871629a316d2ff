-- What a reader of records hands out, and what it answers on any buffer. Assumes nothing.
use Rattle.std.specs.Prelude.{◌≡◌, ℕ, suc, ◌+◌, ◌<◌, true, false, if◌then◌else◌, MatchResult, List, [], ◌∷◌, ◌++◌, length, replicate, Some, None, Ok, Err, Option, Result, ⊤}
use Rattle.std.specs.Borrow.{Bor, u8}
use Rattle.std.specs.Ptr.{as_ptr, ptr_add}
use Rattle.blocks.specs.declared.refusal.Refusal.{Refusal}
use Rattle.blocks.specs.declared.refusal.Refusal.TheVariants.{Length, Kind}
use Rattle.blocks.specs.declared.record.Record.{Record}
use Rattle.blocks.specs.declared.record.Record.TheVariants.{Data, Control, BadHeader, Note}
use Rattle.blocks.specs.declared.record.BadHeader.TheVariants.{Zeros, Ones}
use Rattle.blocks.specs.declared.block.UnknownKind.{UnknownKind}
use Rattle.blocks.specs.declared.reader.Kind.{Kind as RecordKind}
use Rattle.blocks.specs.declared.reader.Kind.TheVariants.{Block}
use Rattle.blocks.specs.Blocks.{kind_of}
use Rattle.blocks.specs.Records.{Item, data_item, control_item, bad_item, note_item, known, size_of, reads}

abbrev pub body_of : Record → Bor (List ℕ)
body_of (Data body) = body
body_of (Control body) = body
body_of (BadHeader _ body) = body
body_of (Note body) = body

abbrev pub item : Record → Item
item (Data body) = data_item body.now
item (Control body) = control_item body.now
item (BadHeader Ones body) = bad_item true body.now
item (BadHeader Zeros body) = bad_item false body.now
item (Note body) = note_item body.now

-- the byte that stands for a kind
abbrev pub kind_byte : RecordKind → ℕ
kind_byte (Block h) = kind_of h
kind_byte _ = 16

-- the result is the kind with this byte, or an error with a byte that no kind has
abbrev pub DecodesKind : ℕ → Result RecordKind UnknownKind → Type 0
DecodesKind k r = MatchResult r (λ kind. kind_byte kind ≡ k) (λ e. (e.0 ≡ k) × (known k ≡ false))

-- an answer of a reader, each record by its bytes
abbrev pub shown : Result (Option (ℕ × Record)) Refusal → Result (Option (ℕ × Item)) Refusal
shown (Ok None) = Ok None
shown (Ok (Some p)) = Ok (Some (p.0, item p.1))
shown (Err e) = Err e

-- The body of a record that begins n bytes behind the front of a buffer lies in that buffer, right behind its kind.
abbrev pub IsLent : Bor (List ℕ) → ℕ → Result (Option (ℕ × Record)) Refusal → Type 0
IsLent buffer n (Ok None) = ⊤
IsLent buffer n (Ok (Some p)) = as_ptr (body_of p.1) ≡ ptr_add u8 (n + 1) (as_ptr buffer)
IsLent buffer n (Err e) = ⊤

-- the bytes of a record
abbrev pub bytes_of : Item → List ℕ
bytes_of (data_item body) = 2 ∷ body
bytes_of (control_item body) = 1 ∷ body
bytes_of (bad_item ones body) = (if ones then 3 else 0) ∷ body
bytes_of (note_item body) = 16 ∷ body

unfoldable pub bytes : List Item → List ℕ
bytes [] = []
bytes (r ∷ rs) = bytes_of r ++ bytes rs

-- its body has the length that its kind fixes
abbrev pub Whole : Item → Type 0
Whole (data_item body) = length body ≡ 8
Whole (control_item body) = length body ≡ 8
Whole (bad_item ones body) = length body ≡ 8
Whole (note_item body) = length body ≡ 3

abbrev pub AllWhole : List Item → Type 0
AllWhole [] = ⊤
AllWhole (r ∷ rs) = Whole r × AllWhole rs

-- no whole record stands at the front: nothing, a record that is cut short, or a kind that no record has
abbrev pub Ends : List ℕ → Type 0
Ends [] = ⊤
Ends (k ∷ xs) = known k ≡ true → length xs < size_of k

-- what a read is answered there, by the index that the record would have
abbrev pub ending : ℕ → List ℕ → Result (Option (ℕ × Item)) Refusal
ending n [] = Ok None
ending n (k ∷ xs) = if known k then Err Length else Err (Kind n)

-- reads that give these records, with their indices from i on
unfoldable pub numbered : ℕ → List Item → List (Result (Option (ℕ × Item)) Refusal)
numbered i [] = []
numbered i (r ∷ rs) = Ok (Some (i, r)) ∷ numbered (suc i) rs

-- a buffer in two parts, records and what is left
pub record Parts (xs : List ℕ) : Type 0 where
  pub records : List Item
  pub left : List ℕ
  pub whole : AllWhole records
  pub ends : Ends left
  pub all : xs ≡ bytes records ++ left

pub record Visits : Type 0 where
  -- every buffer is whole records, and then nothing, a record that is cut short, or an unknown kind
  pub parts : (xs : List ℕ) → Parts xs
  -- the reads give those records in their order, and from then on the same answer each time
  pub each : (records : List Item) (left : List ℕ) (n : ℕ) → AllWhole records → Ends left →
      reads (bytes records ++ left) 0 (length records + n) ≡ numbered 0 records ++ replicate n (ending (length records) left)
