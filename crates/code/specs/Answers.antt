-- What is answered to a word or a message, and what stands in the buffer then.
use Rattle.std.specs.Prelude.{ℕ, List, ◌++◌, codes, length, Some, None, Ok, Err, Option, Result, ◌==◌, nat_lt, if◌then◌else◌, slice_index}
use Rattle.std.specs.Fmt.{decimal}
use Rattle.std.specs.Option.{option_map, ok_or}
use Rattle.std.specs.Result.{result_map_both, result_unwrap_or}
use Rattle.bits.specs.Lowest.{lowest}
use Rattle.code.specs.declared.refusal.Refusal.{Refusal}
use Rattle.code.specs.declared.refusal.Refusal.TheVariants.{Length, Symbol, Reach}
use Rattle.code.specs.Code.{codeword_of, codeword_near, distance}

abbrev pub number_of : Refusal → ℕ
number_of Length = 6
number_of (Symbol i) = 7
number_of Reach = 8

abbrev pub place_of : Refusal → ℕ
place_of Length = 0
place_of (Symbol i) = i
place_of Reach = 0

-- a refusal in words: its number, a space and its place
abbrev pub text_of : Refusal → List ℕ
text_of e = decimal (number_of e) ++ codes " " ++ decimal (place_of e)

-- Why xs is not n symbols of ten bits: its length, else its lowest symbol above 1,023. A word and a message are looked at alike.
unfoldable pub refusal_of : ℕ → List ℕ → Option Refusal
refusal_of n xs = if length xs == n then option_map Symbol (lowest (λ i. nat_lt 1023 (slice_index xs i)) n) else Some Length

-- the refusal, or without one what follows
abbrev pub unless : {A : Type 0} → Option Refusal → Result A Refusal → Result A Refusal
unless (Some e) r = Err e
unless None r = r

-- the codeword that an engine of that reach makes of the word w, or why it refuses w
unfoldable pub correction : ℕ → List ℕ → Result (List ℕ) Refusal
correction reach w = unless (refusal_of 544 w) (ok_or (codeword_near reach w) Reach)

-- the answer: in how many symbols w and that codeword differ
abbrev pub corrected_count : ℕ → List ℕ → Result ℕ Refusal
corrected_count reach w = result_map_both (distance w) (λ e. e) (correction reach w)

-- the word that is left: that codeword, or w itself
abbrev pub corrected_word : ℕ → List ℕ → List ℕ
corrected_word reach w = result_unwrap_or (correction reach w) w

-- the codeword that is made of a message in the buffer w, or why it is refused
unfoldable pub encoding : List ℕ → List ℕ → Result (List ℕ) Refusal
encoding m w = if length w == 544 then unless (refusal_of 514 m) (Ok (codeword_of m)) else Err Length

abbrev pub encode_answer : List ℕ → List ℕ → Result (Unit {0}) Refusal
encode_answer m w = result_map_both (λ c. tt) (λ e. e) (encoding m w)

-- the word that is left: that codeword, or w itself
abbrev pub encoded_word : List ℕ → List ℕ → List ℕ
encoded_word m w = result_unwrap_or (encoding m w) w
