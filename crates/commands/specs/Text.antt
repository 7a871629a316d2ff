-- Records as lines of text, and back. Assumes nothing.
use Rattle.std.specs.Prelude.{◌≡◌, ℕ, zero, suc, ◌+◌, ◌*◌, Bool, true, false, if◌then◌else◌, List, [], ◌∷◌, ◌++◌, length, take, drop, codes, slice_index, Some, None, Ok, Err, Option, Result, ◌==◌, nat_eq}
use Rattle.std.specs.List.{slice_split}
use Rattle.std.specs.Cmp.Lexicographic.{pointwise}
use Rattle.hex.specs.Hex.{encode_lower, decode_sized, IsBytes}
use Rattle.blocks.specs.Walk.{AllWhole, bytes}
use Rattle.hex.specs.declared.error.FromHexError.{FromHexError}
use Rattle.blocks.specs.declared.refusal.Refusal.{Refusal}
use Rattle.blocks.specs.Records.{Item, data_item, control_item, bad_item, note_item, look}
use Rattle.commands.specs.Walks.{behind}
use Rattle.blocks.specs.Refusals.{text_of}
use Rattle.commands.specs.declared.text.Expected.{Expected}
use Rattle.commands.specs.declared.text.Expected.TheVariants.{Word, Digits}
use Rattle.commands.specs.declared.text.TextError.{TextError}
use Rattle.commands.specs.declared.text.TextError.TheVariants.{Line, Memory, Length}
use Rattle.commands.specs.declared.text.WrongLine.{WrongLine}

-- A record's line: the word for its kind, and its body in hexadecimal, first octet first.
abbrev pub item_line : Item → List ℕ
item_line (data_item body) = codes "data " ++ (encode_lower body ++ 10 ∷ [])
item_line (control_item body) = codes "control " ++ (encode_lower body ++ 10 ∷ [])
item_line (bad_item true body) = codes "bad11 " ++ (encode_lower body ++ 10 ∷ [])
item_line (bad_item false body) = codes "bad00 " ++ (encode_lower body ++ 10 ∷ [])
item_line (note_item body) = codes "note " ++ (encode_lower body ++ 10 ∷ [])

-- what a reader finds, and what is listed behind it: the lines, and why the walk is refused
abbrev pub then_lines : Result (Option (ℕ × Item)) Refusal → List ℕ → List ℕ
then_lines (Ok None) later = []
then_lines (Ok (Some r)) later = item_line r.1 ++ later
then_lines (Err e) later = text_of e ++ 10 ∷ []

abbrev pub then_refusal : Result (Option (ℕ × Item)) Refusal → Option Refusal → Option Refusal
then_refusal (Ok None) later = None
then_refusal (Ok (Some r)) later = later
then_refusal (Err e) later = Some e

-- of xs from record n on, m records at most
unfoldable pub lines_from : ℕ → ℕ → List ℕ → List ℕ
lines_from zero n xs = []
lines_from (suc m) n xs = then_lines (look n xs) (lines_from m (suc n) (behind xs))

unfoldable pub refusal_from : ℕ → ℕ → List ℕ → Option Refusal
refusal_from zero n xs = None
refusal_from (suc m) n xs = then_refusal (look n xs) (refusal_from m (suc n) (behind xs))

-- a line a record, and the refusal as the last line
abbrev pub listed : List ℕ → List ℕ
listed xs = lines_from (suc (length xs)) 0 xs

abbrev pub listing_refusal : List ℕ → Option Refusal
listing_refusal xs = refusal_from (suc (length xs)) 0 xs

-- Back: a line is empty, a comment, or a word and digits.
abbrev pub begins : List ℕ → List ℕ → Bool
begins word line = pointwise nat_eq (take (length word) line) word

abbrev pub with_kind : ℕ → ℕ → Result (List ℕ) FromHexError → Result (List ℕ) Expected
with_kind kind size (Ok body) = Ok (kind ∷ body)
with_kind kind size (Err e) = Err (Digits (2 * size))

-- the record of a line that begins with this word
abbrev pub word_record : List ℕ → ℕ → ℕ → List ℕ → Result (List ℕ) Expected
word_record word kind size line = with_kind kind size (decode_sized (drop (length word) line) size)

-- no record stands on an empty line and on a comment, which begins with #
abbrev pub blank_record : List ℕ → Result (List ℕ) Expected
blank_record line = if length line == 0 then Ok [] else if slice_index line 0 == 35 then Ok [] else Err Word

unfoldable pub line_record : List ℕ → Result (List ℕ) Expected
line_record line =
    if begins (codes "data ") line then word_record (codes "data ") 2 8 line
    else if begins (codes "control ") line then word_record (codes "control ") 1 8 line
    else if begins (codes "bad00 ") line then word_record (codes "bad00 ") 0 8 line
    else if begins (codes "bad11 ") line then word_record (codes "bad11 ") 3 8 line
    else if begins (codes "note ") line then word_record (codes "note ") 16 3 line
    else blank_record line

abbrev pub then_records : ℕ → Result (List ℕ) Expected → Result (List ℕ) WrongLine → Result (List ℕ) WrongLine
then_records n (Ok bytes) (Ok later) = Ok (bytes ++ later)
then_records n (Ok bytes) (Err wrong) = Err wrong
then_records n (Err expected) later = Err (record { line = n; expected = expected })

-- of lines that are numbered from n on
unfoldable pub records_in : ℕ → List (List ℕ) → Result (List ℕ) WrongLine
records_in n [] = Ok []
records_in n (line ∷ lines) = then_records n (line_record line) (records_in (n + 1) lines)

-- the records of a text, or its first line that is none
abbrev pub records_of_text : List ℕ → Result (List ℕ) WrongLine
records_of_text text = records_in 1 (slice_split (λ b. b == 10) text)

-- an error of a text that reads so: its first wrong line, want of memory, or more lines than can be counted
abbrev pub Refuses : Result (List ℕ) WrongLine → TextError → Type 0
Refuses r (Line wrong) = r ≡ Err wrong
Refuses r (Memory e) = Unit {0}
Refuses r Length = Unit {0}

-- what is written of a text: its records, or nothing; and its wrong line
abbrev pub written_of : Result (List ℕ) WrongLine → List ℕ
written_of (Ok bytes) = bytes
written_of (Err wrong) = []

abbrev pub binary : List ℕ → List ℕ
binary text = written_of (records_of_text text)

abbrev pub wrong_in : Result (List ℕ) WrongLine → Option WrongLine
wrong_in (Ok bytes) = None
wrong_in (Err wrong) = Some wrong

abbrev pub wrong_line : List ℕ → Option WrongLine
wrong_line text = wrong_in (records_of_text text)

-- The text of any records is read back as these records.
abbrev pub TextsComeBack : Type 0
TextsComeBack = (rs : List Item) → AllWhole rs → IsBytes (bytes rs) → records_of_text (listed (bytes rs)) ≡ Ok (bytes rs)
