-- How the example words and their message are printed, and what is told of rows of them. Assumes nothing.
use Rattle.std.specs.Prelude.{IfOk, length, ◌≡◌, ℕ, ◌+◌, ◌-◌, ◌*◌, ◌/◌, ◌%◌, Bool, if◌then◌else◌, ◌&&◌, List, [], ◌∷◌, nat_eq, nat_lt, slice_index, slice_index_or, min, zero, suc, ◌++◌, ◌==◌, codes, Some, None, Option, Result}
use Rattle.std.specs.Fmt.{decimal}
use Rattle.std.specs.Result.{IsOk, IsErr}
use Rattle.std.specs.Cmp.Lexicographic.{pointwise}
use Rattle.bits.specs.Bits.{bit, table}
use Rattle.commands.specs.Lines.{digit}
use Rattle.commands.specs.Streams.{Writes}
use Rattle.commands.specs.declared.words.Printed.{Printed}
use Rattle.commands.specs.declared.words.Printed.TheVariants.{Message, A, B}
use Rattle.commands.specs.declared.words.Tally.{Tally}

-- four bits as a number, the first the highest
abbrev pub four_bits : List ℕ → ℕ
four_bits bits = 8 * (slice_index bits 0 % 2) + 4 * (slice_index bits 1 % 2) + 2 * (slice_index bits 2 % 2) + slice_index bits 3 % 2

-- word A, 0, or word B, 1
abbrev pub word_of : List (List ℕ) → ℕ → List ℕ
word_of words w = slice_index_or words w []

-- Bit i of the message: even symbols are in word A, odd ones in B, and the lowest bit of a symbol comes first.
abbrev pub message_bit : List (List ℕ) → ℕ → ℕ
message_bit words i = bit (slice_index (word_of words (i / 10 % 2)) (i / 20)) (i % 10)

-- bit i of a word, the highest bit of a symbol first
abbrev pub word_bit : List ℕ → ℕ → ℕ
word_bit word i = bit (slice_index word (i / 10)) (9 - i % 10)

-- A row has 257 bits of the message, behind three zeros, or 32 symbols of a word.
abbrev pub bit_in_row : Printed → List (List ℕ) → ℕ → ℕ → ℕ
bit_in_row Message words row p = if nat_lt p 3 then 0 else message_bit words (257 * row + (p - 3))
bit_in_row A words row p = word_bit (word_of words 0) (320 * row + p)
bit_in_row B words row p = word_bit (word_of words 1) (320 * row + p)

-- digit n of a row
abbrev pub digit_in_row : Printed → List (List ℕ) → ℕ → ℕ → ℕ
digit_in_row what words row n =
    let b = bit_in_row what words row in
    digit (four_bits (b (4 * n) ∷ b (4 * n + 1) ∷ b (4 * n + 2) ∷ b (4 * n + 3) ∷ []))

abbrev pub row_count : Printed → ℕ
row_count Message = 40
row_count A = 17
row_count B = 17

abbrev pub digit_count : Printed → ℕ
digit_count Message = 65
digit_count A = 80
digit_count B = 80

-- the digits of a row
unfoldable pub digits_of : Printed → List (List ℕ) → ℕ → List ℕ
digits_of what words row = table (digit_count what) (digit_in_row what words row)

-- whether these are the digits of a row
abbrev pub is_row : Printed → List (List ℕ) → ℕ → List ℕ → Bool
is_row what words row digits = nat_lt row (row_count what) && pointwise nat_eq digits (digits_of what words row)

-- one more
abbrev pub count_on : ℕ → ℕ
count_on n = min (n + 1) 18446744073709551615

-- a table's rows after one that is whole, equal to what was sent or not, and after one that is damaged
abbrev pub after_whole : Bool → Tally → Tally
after_whole equal t = record { tried = count_on t.tried; equal = if equal then count_on t.equal else t.equal; damaged = t.damaged }

abbrev pub after_damaged : Tally → Tally
after_damaged t = record { tried = t.tried; equal = t.equal; damaged = count_on t.damaged }

-- the same after a row that is told as whole or damaged; any other status is refused
abbrev pub told : Printed → List (List ℕ) → ℕ → List ℕ → List ℕ → Tally → Option Tally
told what words row status digits t =
    if pointwise nat_eq status (codes "whole") then Some (after_whole (is_row what words row digits) t)
    else if pointwise nat_eq status (codes "damaged") then Some (after_damaged t) else None

abbrev pub Tried : {E : Type 0} → Option Tally → Tally → Tally → Result (Unit {0}) E → Type 0
Tried (Some t) old new r = (new ≡ t) × IsOk r
Tried None old new r = (new ≡ old) × IsErr r

-- the six tables, by number
abbrev pub name_of : ℕ → List ℕ
name_of k =
    if k == 0 then codes "message-200" else if k == 1 then codes "message-400" else if k == 2 then codes "A-at-200" else if k == 3 then codes "B-at-200"
    else if k == 4 then codes "A-at-400" else codes "B-at-400"

abbrev pub none_told : Tally
none_told = record { tried = 0; equal = 0; damaged = 0 }

abbrev pub tally_of : List Tally → ℕ → Tally
tally_of ts k = slice_index_or ts k none_told

-- a table's line
abbrev pub table_line : List ℕ → Tally → List ℕ
table_line name t =
    name ++ (codes ": " ++ (decimal t.tried ++ (codes " rows tried, " ++ (decimal t.equal ++ (codes " equal, " ++ (decimal t.damaged ++ codes " damaged\n"))))))

unfoldable pub table_lines : ℕ → List Tally → List ℕ
table_lines zero ts = []
table_lines (suc n) ts = table_lines n ts ++ table_line (name_of n) (tally_of ts n)

-- how many rows of the first n tables were tried, and how many of them are equal
abbrev pub plus : ℕ → ℕ → ℕ
plus m n = min (m + n) 18446744073709551615

unfoldable pub tried_in : ℕ → List Tally → ℕ
tried_in zero ts = 0
tried_in (suc n) ts = plus (tried_in n ts) (tally_of ts n).tried

unfoldable pub equal_in : ℕ → List Tally → ℕ
equal_in zero ts = 0
equal_in (suc n) ts = plus (equal_in n ts) (tally_of ts n).equal

abbrev pub last_line : ℕ → ℕ → List ℕ
last_line tried equal = decimal tried ++ (codes " rows tried, " ++ (decimal equal ++ codes " equal\n"))

-- the whole report, and whether all rows tried are equal
abbrev pub report_text : List Tally → List ℕ
report_text ts = table_lines 6 ts ++ last_line (tried_in 6 ts) (equal_in 6 ts)

abbrev pub all_equal : List Tally → Bool
all_equal ts = tried_in 6 ts == equal_in 6 ts

-- What is written is the report of the tallies of six tables, and the answer tells whether all rows tried are equal; after an
-- error a front part of a report.
abbrev pub Reports : {E : Type 0} → Option (List ℕ) → Option (List ℕ) → Result Bool E → Type 0
Reports old new r = (ts : List Tally) × (length ts ≡ 6) × Writes old new r (report_text ts) × IfOk r (λ equal. equal ≡ all_equal ts)
