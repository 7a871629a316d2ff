-- What the answers mean: laws of the definitions that the calls' contracts name.
use Rattle.std.specs.Prelude.{◌≡◌, ℕ, ◌<◌, ◌≤◌, List, length, Ok, Err, Result, slice_index}
use Rattle.code.specs.declared.refusal.Refusal.{Refusal}
use Rattle.code.specs.declared.refusal.Refusal.TheVariants.{Length, Symbol, Reach}
use Rattle.code.specs.Code.{WellFormed, Codeword, message_of, codeword_of, distance}
use Rattle.code.specs.Answers.{corrected_count, corrected_word, encode_answer, encoded_word}

-- i is the lowest index of a symbol above 1,023
pub record IsLowestLarge (w : List ℕ) (i : ℕ) : Type 0 where
  pub within : i < length w
  pub large : 1024 ≤ slice_index w i
  pub before : (k : ℕ) → k < i → slice_index w k < 1024

-- why a list is not n symbols of ten bits
abbrev pub Malformed : ℕ → List ℕ → Refusal → Type 0
Malformed n w Length = length w ≡ n → ⊥
Malformed n w (Symbol i) = (length w ≡ n) × IsLowestLarge w i
Malformed n w Reach = ⊥

-- why an engine of that reach refuses the word w
abbrev pub Refused : ℕ → List ℕ → Refusal → Type 0
Refused reach w Length = Malformed 544 w Length
Refused reach w (Symbol i) = Malformed 544 w (Symbol i)
Refused reach w Reach = WellFormed w × ((c : List ℕ) → Codeword c → distance w c ≤ reach → ⊥)

-- the word is left as a codeword that differs from it in n symbols
pub record Repaired (reach : ℕ) (entry exit : List ℕ) (n : ℕ) : Type 0 where
  pub formed : WellFormed entry
  pub codeword : Codeword exit
  pub changed : distance entry exit ≡ n
  pub within : n ≤ reach

-- what an engine of that reach makes of a word: it is left as a codeword within reach, or refused and left as it was
abbrev pub Corrected : ℕ → List ℕ → List ℕ → Result ℕ Refusal → Type 0
Corrected reach entry exit (Ok n) = Repaired reach entry exit n
Corrected reach entry exit (Err e) = (exit ≡ entry) × Refused reach entry e

-- what is answered to a word, and how it is left, follows from the reach alone
abbrev pub AnswersAgree : Type 0
AnswersAgree =
    (reach : ℕ) → reach ≤ 15 → (w v u : List ℕ) (r s : Result ℕ Refusal) → Corrected reach w v r → Corrected reach w u s → (v ≡ u) × (r ≡ s)

-- an engine of reach 0 leaves every word as it is
abbrev pub WatchingKeeps : Type 0
WatchingKeeps = (w v : List ℕ) (r : Result ℕ Refusal) → Corrected 0 w v r → v ≡ w

-- Codewords lie far apart: those that differ in at most 30 symbols are equal,
-- so within a reach of at most 15 of a word there is at most one.
pub record FarApart : Type 0 where
  pub distinct : (v w : List ℕ) → Codeword v → Codeword w → distance v w ≤ 30 → v ≡ w
  pub single : (reach : ℕ) → reach ≤ 15 → (u v w : List ℕ) → Codeword v → Codeword w → distance u v ≤ reach → distance u w ≤ reach → v ≡ w

-- the one codeword that begins with the message
pub record Encoded (message word : List ℕ) : Type 0 where
  pub codeword : Codeword word
  pub begins : message_of word ≡ message
  pub only : (c : List ℕ) → Codeword c → message_of c ≡ message → c ≡ word

-- every message of 514 symbols has its codeword
abbrev pub EachEncodes : Type 0
EachEncodes = (m : List ℕ) → length m ≡ 514 → ((i : ℕ) → i < 514 → slice_index m i < 1024) → Encoded m (codeword_of m)

-- what every engine of that reach makes of words
pub record EngineLaws (reach : ℕ) : Type 0 where
  -- the count and the word left are a correction
  pub corrects : (w : List ℕ) → Corrected reach w (corrected_word reach w) (corrected_count reach w)
  -- and there is no other
  pub alone : (w v : List ℕ) (r : Result ℕ Refusal) → Corrected reach w v r → (v ≡ corrected_word reach w) × (r ≡ corrected_count reach w)
  -- a codeword that was changed in at most as many symbols as the reach comes back, with their number
  pub restores : (c w : List ℕ) → Codeword c → WellFormed w → distance w c ≤ reach → (corrected_word reach w ≡ c) × (corrected_count reach w ≡ Ok (distance w c))
  -- at reach 0 every word stays as it is
  pub watches : reach ≡ 0 → (w : List ℕ) → corrected_word reach w ≡ w
  pub apart : FarApart
  pub each : EachEncodes

-- why a message is not encoded into the word
abbrev pub EncodeRefused : List ℕ → List ℕ → Refusal → Type 0
EncodeRefused message word Length = ((length message ≡ 514) × (length word ≡ 544)) → ⊥
EncodeRefused message word (Symbol i) = (length message ≡ 514) × (length word ≡ 544) × IsLowestLarge message i
EncodeRefused message word Reach = ⊥

-- what encoding makes of the word
abbrev pub Encodes : List ℕ → List ℕ → List ℕ → Result (Unit {0}) Refusal → Type 0
Encodes message entry exit (Ok u) = Encoded message exit
Encodes message entry exit (Err e) = (exit ≡ entry) × EncodeRefused message entry e

-- what encoding makes of messages
pub record EncodeLaws : Type 0 where
  -- the answer and the word left are an encoding
  pub encodes : (message word : List ℕ) → Encodes message word (encoded_word message word) (encode_answer message word)
  pub each : EachEncodes
