-- Lines of a text, their records, and records that come back from their lines.
use Rattle.std.proofs.Common.{◌≡◌, ℕ, ◌+◌, ◌-◌, ◌<◌, Bool, false, eqb, ltb, List, [], ◌∷◌, ◌++◌, length, take, drop, append_assoc, append-nil, ap, ◌∙◌, sym, refl, inl, inr, Option, None, Some, Ok, Err, Result, MatchResult, MatchOption, arith}
use Rattle.std.proofs.lemmas.Bool.{cases_Bool, ltb-true, ltb-false}
use Rattle.std.proofs.lemmas.List.{take_rest}
use Rattle.std.proofs.lemmas.List.Elements.{All-from_get_or}
use Rattle.std.proofs.lemmas.List.Splits.{slice_split_first, slice_split_none}
use Rattle.std.proofs.lemmas.List.Sums.{fails_before_first}
use Rattle.std.specs.List.{position, position_or_len, slice_split}
use Rattle.commands.specs.Text.{line_record, then_records, records_in}
use Rattle.commands.specs.declared.text.Expected.{Expected}
use Rattle.commands.specs.declared.text.WrongLine.{WrongLine}

feed : ℕ → Bool
feed b = eqb b 10

found : (p : ℕ → Bool) (xs : List ℕ) (i : ℕ) → position p xs ≡ Some i → (position_or_len p xs ≡ i) × (i < length xs)
found p xs i h = elim (cases_Bool (ltb (position_or_len p xs) (length xs))) [
  | inl e ↦ let s : Some (position_or_len p xs) ≡ Some i = rw e at h in let same : position_or_len p xs ≡ i = cc in (same, omega (arith, ltb-true (position_or_len p xs) (length xs) e))
  | inr e ↦ let s : None ≡ Some i = rw e at h in absurd cc
]

pub split_here : (p : ℕ → Bool) (xs : List ℕ) (i : ℕ) → position p xs ≡ Some i → slice_split p xs ≡ take i xs ∷ slice_split p (take (length xs - (i + 1)) (drop (i + 1) xs))
split_here p xs i h =
    let f = found p xs i h in
    slice_split_first p xs 0 (omega (arith, f.0, f.1)) ∙ ap (λ n. take n xs ∷ slice_split p (drop (n + 1) xs)) f.0
    ∙ ap (λ l. take i xs ∷ slice_split p l) (sym (take_rest xs (i + 1)))

pub split_nowhere : (p : ℕ → Bool) (xs : List ℕ) → position p xs ≡ None → slice_split p xs ≡ xs ∷ []
split_nowhere p xs h = elim (cases_Bool (ltb (position_or_len p xs) (length xs))) [
  | inl e ↦ let s : Some (position_or_len p xs) ≡ None = rw e at h in absurd cc
  | inr e ↦ let past = ltb-false (position_or_len p xs) (length xs) e in
      slice_split_none p xs (All-from_get_or (λ x. p x ≡ false) xs 0 (λ k l. fails_before_first p xs k 0 (omega (arith, past))))
]

-- what is read so far, in front of what is read of the rest
abbrev pub prepended : List ℕ → Result (List ℕ) WrongLine → Result (List ℕ) WrongLine
prepended bytes (Ok later) = Ok (bytes ++ later)
prepended bytes (Err wrong) = Err wrong

pub prepended_none : (r : Result (List ℕ) WrongLine) → prepended [] r ≡ r
prepended_none (Ok later) = refl
prepended_none (Err wrong) = refl

-- a line whose record goes behind those that are there
pub record_read : (all : Result (List ℕ) WrongLine) (bytes more : List ℕ) (n : ℕ) (line : List ℕ) (lines : List (List ℕ)) → all ≡ prepended bytes (records_in n (line ∷ lines)) → line_record line ≡ Ok more
    → all ≡ prepended (bytes ++ more) (records_in (n + 1) lines)
unfolding records_in
record_read all bytes more n line lines e h = e ∙ ap (λ r. prepended bytes (then_records n r (records_in (n + 1) lines))) h ∙ go (records_in (n + 1) lines) where
  go : (r : Result (List ℕ) WrongLine) → prepended bytes (then_records n (Ok more) r) ≡ prepended (bytes ++ more) r
  go (Ok later) = ap Ok (sym (append_assoc bytes more later))
  go (Err wrong) = refl

pub line_wrong : (all : Result (List ℕ) WrongLine) (bytes : List ℕ) (n : ℕ) (line : List ℕ) (lines : List (List ℕ)) (expected : Expected) → all ≡ prepended bytes (records_in n (line ∷ lines)) → line_record line ≡ Err expected
    → all ≡ Err (record { line = n; expected = expected })
unfolding records_in
line_wrong all bytes n line lines expected e h = e ∙ ap (λ r. prepended bytes (then_records n r (records_in (n + 1) lines))) h

pub all_read : (all : Result (List ℕ) WrongLine) (bytes : List ℕ) (n : ℕ) → all ≡ prepended bytes (records_in n []) → all ≡ Ok bytes
unfolding records_in
all_read all bytes n e = e ∙ ap Ok (append-nil bytes)

-- what a call on one line told
pub was_record : (r : Result (List ℕ) Expected) (w : Option Expected) (old new : List ℕ) → MatchResult r (λ bytes. (w ≡ None) × (new ≡ old ++ bytes)) (λ e. w ≡ Some e) → w ≡ None
    → (bytes : List ℕ) × (r ≡ Ok bytes) × (new ≡ old ++ bytes)
was_record (Ok bytes) w old new m h = (bytes, refl, m.1)
was_record (Err e) w old new m h = absurd cc

pub was_wrong : (r : Result (List ℕ) Expected) (w : Option Expected) (old new : List ℕ) (e : Expected) → MatchResult r (λ bytes. (w ≡ None) × (new ≡ old ++ bytes)) (λ e. w ≡ Some e) → w ≡ Some e
    → r ≡ Err e
was_wrong (Ok bytes) w old new e m h = absurd cc
was_wrong (Err d) w old new e m h = let same : Some d ≡ Some e = sym m ∙ h in cc

pub some_line : {X : Type 0} (o : Option X) (f : X → List (List ℕ)) (s : List (List ℕ)) (l : List ℕ) → MatchOption o (s ≡ l ∷ []) (λ r. s ≡ l ∷ f r) → (lines : List (List ℕ)) × (s ≡ l ∷ lines)
some_line None f s l m = ([], m)
some_line (Some x) f s l m = (f x, m)
