-- The numbers and places of refusals, and when a tick is refused. Assumes nothing.
use Rattle.std.specs.Prelude.{ℕ, ◌&&◌, Bool, if◌then◌else◌, List, ◌++◌, codes, Some, None, Ok, Err, Option, Result, ◌==◌, nat_le}
use Rattle.std.specs.Fmt.{decimal}
use Rattle.bits.specs.Bits.{bit}
use Rattle.bits.specs.Lowest.{lowest}
use Rattle.receiver.specs.declared.refusal.Refusal.{Refusal}
use Rattle.receiver.specs.declared.refusal.Refusal.TheVariants.{Ready, Bit}

abbrev pub number_of : Refusal → ℕ
number_of (Bit i) = 2
number_of Ready = 20

abbrev pub place_of : Refusal → ℕ
place_of (Bit i) = i
place_of Ready = 0

abbrev pub text_of : Refusal → List ℕ
text_of e = decimal (number_of e) ++ codes " " ++ decimal (place_of e)

-- bit i of a tick word is set, and stands for no position
abbrev pub is_stray : ℕ → ℕ → ℕ → Bool
is_stray lanes word i = nat_le lanes i && bit word i == 1

-- the lowest such bit, of 32
unfoldable pub stray_bit : ℕ → ℕ → Option ℕ
stray_bit lanes word = lowest (is_stray lanes word) 32

abbrev pub word_or : ℕ → Option ℕ → Result ℕ Refusal
word_or word None = Ok word
word_or word (Some i) = Err (Bit i)

-- A hunting receiver refuses a tick when it is ready, and then one with a stray bit.
unfoldable pub accepted_word : ℕ → Bool → ℕ → Result ℕ Refusal
accepted_word lanes ready word = if ready then Err Ready else word_or word (stray_bit lanes word)
