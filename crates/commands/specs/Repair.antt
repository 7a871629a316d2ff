-- What the command `repair` prints of a count of symbols to change. Assumes nothing.
use Rattle.std.specs.Prelude.{ℕ, zero, suc, ◌+◌, ◌*◌, ◌/◌, ◌%◌, Bool, true, false, List, [], ◌∷◌, ◌++◌, codes, set, slice_index, bit_xor, min, nat_eq, Ok, Err, Result}
use Rattle.std.specs.Fmt.{decimal}
use Rattle.std.specs.Cmp.Lexicographic.{pointwise}
use Rattle.code.specs.Answers.{text_of, corrected_count, corrected_word}
use Rattle.code.specs.Code.{codeword_of}
use Rattle.code.specs.declared.refusal.Refusal.{Refusal}

-- numbers that are the same on every run: the one behind a number, and the one behind n of them, from 1 on
abbrev pub next_number : ℕ → ℕ
next_number x = (x * 1664525 + 1013904223) % 4294967296

unfoldable pub number_after : ℕ → ℕ
number_after zero = 1
number_after (suc n) = next_number (number_after n)

-- symbol n that is drawn: the ten high bits of the next number
abbrev pub drawn : ℕ → ℕ
drawn n = number_after (suc n) / 4194304

-- the first n symbols drawn
unfoldable pub symbols : ℕ → List ℕ
symbols zero = []
symbols (suc n) = symbols n ++ drawn n ∷ []

-- the word that is sent: the codeword of the first 514 symbols
abbrev pub sent_word : List ℕ
sent_word = codeword_of (symbols 514)

-- Step n goes to the place 17 places behind the last one, round the word, and changes the symbol there to another one.
abbrev pub place_of : ℕ → ℕ
place_of n = 17 * n % 544

abbrev pub changed : ℕ → ℕ → ℕ
changed n old = bit_xor old (1 + drawn (514 + n) % 1023)

-- the word after n steps
unfoldable pub damaged : List ℕ → ℕ → List ℕ
damaged w zero = w
damaged w (suc n) = set (damaged w n) (place_of n) (changed n (slice_index (damaged w n) (place_of n)))

-- the line of a step: its place, the symbol that stood there and the one that stands there now
abbrev pub symbol_line : ℕ → ℕ → ℕ → List ℕ
symbol_line at old new = codes "symbol " ++ (decimal at ++ (codes ": " ++ (decimal old ++ (codes " became " ++ (decimal new ++ codes "\n")))))

unfoldable pub damage_lines : List ℕ → ℕ → List ℕ
damage_lines w zero = []
damage_lines w (suc n) = damage_lines w n ++ symbol_line (place_of n) (slice_index (damaged w n) (place_of n)) (slice_index (damaged w (suc n)) (place_of n))

-- the last line: the engine's answer, and whether its word is the one that was sent
abbrev pub report_of : Result ℕ Refusal → Bool → List ℕ
report_of (Ok count) true = codes "corrected " ++ (decimal count ++ codes " symbols; the word sent is back: true\n")
report_of (Ok count) false = codes "corrected " ++ (decimal count ++ codes " symbols; the word sent is back: false\n")
report_of (Err refusal) back = codes "refused: " ++ (text_of refusal ++ 10 ∷ [])

-- the last line of a word that was sent and damaged
abbrev pub last_line : List ℕ → List ℕ → List ℕ
last_line sent w = report_of (corrected_count 15 w) (pointwise nat_eq sent (corrected_word 15 w))

-- the whole text: 544 steps at most
abbrev pub steps : ℕ → ℕ
steps count = min count 544

abbrev pub repair_text : ℕ → List ℕ
repair_text count = codes "encoded: true\n" ++ (damage_lines sent_word (steps count) ++ last_line sent_word (damaged sent_word (steps count)))
