-- What the calls from C answer and leave: a number and a place, 0 where accepted, and what pointers say. Assumes nothing.
use Rattle.std.specs.Prelude.{ℕ, Bool, List, Some, None, Ok, Err, Option, Result, if◌then◌else◌}
use Rattle.blocks.specs.Refusals as groups
use Rattle.blocks.specs.declared.refusal.Refusal.{Refusal as GroupRefusal}
use Rattle.code.specs.Answers as codes
use Rattle.code.specs.declared.refusal.Refusal.{Refusal}
use Rattle.host.specs.Crossing.{symbol_octets}

-- the number and the place of a call on groups
abbrev pub group_number : Option GroupRefusal → ℕ
group_number None = 0
group_number (Some e) = groups.number_of e

abbrev pub group_place : Option GroupRefusal → ℕ
group_place None = 0
group_place (Some e) = groups.place_of e

-- of a call on words
abbrev pub word_number : {A : Type 0} → Result A Refusal → ℕ
word_number (Ok a) = 0
word_number (Err e) = codes.number_of e

abbrev pub word_place : {A : Type 0} → Result A Refusal → ℕ
word_place (Ok a) = 0
word_place (Err e) = codes.place_of e

-- the count that a call leaves where it found `before`
abbrev pub count_left : Result ℕ Refusal → ℕ → ℕ
count_left (Ok n) before = n
count_left (Err e) before = before

-- the octets of a word: those of the codeword that was made, or what stood there
abbrev pub word_left : Result (List ℕ) Refusal → List ℕ → List ℕ
word_left (Ok c) before = symbol_octets c
word_left (Err e) before = before

-- what is left of an answer by 1 or 0
abbrev pub sound_left : Option GroupRefusal → Bool → ℕ → ℕ
sound_left None is before = if is then 1 else 0
sound_left (Some e) is before = before
