-- Whether digits are those of a row.
use Rattle.std.proofs.Common.{◌≡◌, ℕ, ◌+◌, ◌<◌, ◌≤◌, Bool, true, false, ◌&&◌, List, length, get_or, nat_eq, ap, ◌∙◌, sym, refl, inl, inr, arith, ◌++◌, ap₂, add-one, [], ◌==◌, Option, Result, Ok, Err, replicate, subst, IfOk}
use Rattle.std.specs.Cmp.Lexicographic.{pointwise, same_text}
use Rattle.std.proofs.lemmas.Bool.{cases_Bool, cases_lt, lt-ltb, le-ltb}
use Rattle.std.proofs.lemmas.List.{ext_get_or}
use Rattle.std.proofs.lemmas.Cmp.{nat_list_eq_equiv}
use Rattle.bits.proofs.Tables.{length-table, nth-table}
use Rattle.std.specs.Result.{IsErr}
use Rattle.std.specs.Io.KnownBytes.{Appends}
use Rattle.commands.specs.Streams.{AppendsFront, Writes}
use Rattle.commands.specs.Words.{Reports, none_told}
use Rattle.commands.specs.declared.words.Printed.{Printed}
use Rattle.commands.specs.declared.words.Tally.{Tally}
use Rattle.commands.specs.Words.{table_lines, tried_in, equal_in, table_line, name_of, tally_of, plus, last_line, report_text, all_equal, row_count, digit_count, digit_in_row, digits_of, is_row}

and_false : (a b : Bool) → b ≡ false → (a && b) ≡ false
and_false true b h = h
and_false false b h = refl

others : (xs ys : List ℕ) → (xs ≡ ys → ⊥) → pointwise nat_eq xs ys ≡ false
others xs ys h = elim (cases_Bool (pointwise nat_eq xs ys)) [
  | inl e ↦ absurd (h (same_text xs ys (sym e)))
  | inr e ↦ e
]

length_digits : (what : Printed) (words : List (List ℕ)) (row : ℕ) → length (digits_of what words row) ≡ digit_count what
unfolding digits_of
length_digits what words row = length-table (digit_count what) (digit_in_row what words row)

digit_is : (what : Printed) (words : List (List ℕ)) (row n : ℕ) → n < digit_count what → get_or (digits_of what words row) n 0 ≡ digit_in_row what words row n
unfolding digits_of
digit_is what words row n l = nth-table (digit_count what) (digit_in_row what words row) n l

pub past_rows : (what : Printed) (words : List (List ℕ)) (row : ℕ) (digits : List ℕ) → row_count what ≤ row → is_row what words row digits ≡ false
past_rows what words row digits h = ap (λ b. b && pointwise nat_eq digits (digits_of what words row)) (le-ltb row (row_count what) h)

pub other_length : (what : Printed) (words : List (List ℕ)) (row : ℕ) (digits : List ℕ) → (length digits ≡ digit_count what → ⊥) → is_row what words row digits ≡ false
other_length what words row digits h = and_false _ _ (others digits (digits_of what words row) (λ e. h (ap length e ∙ length_digits what words row)))

pub other_digit : (what : Printed) (words : List (List ℕ)) (row n : ℕ) (digits : List ℕ) → n < digit_count what → (get_or digits n 0 ≡ digit_in_row what words row n → ⊥) → is_row what words row digits ≡ false
other_digit what words row n digits l h = and_false _ _ (others digits (digits_of what words row) (λ e. h (ap (λ d. get_or d n 0) e ∙ digit_is what words row n l)))

-- the digits before number n are those of the row
abbrev pub Same : Printed → List (List ℕ) → ℕ → List ℕ → ℕ → Type 0
Same what words row digits n = (i : ℕ) → i < n → get_or digits i 0 ≡ digit_in_row what words row i

pub same_first : (what : Printed) (words : List (List ℕ)) (row : ℕ) (digits : List ℕ) → Same what words row digits 0
same_first what words row digits i l = absurd (omega (arith, l))

pub same_next : (what : Printed) (words : List (List ℕ)) (row : ℕ) (digits : List ℕ) (n : ℕ) → Same what words row digits n → get_or digits n 0 ≡ digit_in_row what words row n → Same what words row digits (n + 1)
same_next what words row digits n s h i l = elim (cases_lt i n) [
  | inl k ↦ s i k
  | inr k ↦ let e : i ≡ n = omega (arith, l, k) in rw e h
]

pub same_row : (what : Printed) (words : List (List ℕ)) (row : ℕ) (digits : List ℕ) → row < row_count what → length digits ≡ digit_count what → Same what words row digits (length digits) → is_row what words row digits ≡ true
same_row what words row digits l size s =
    let e : digits ≡ digits_of what words row =
    ext_get_or 0 digits (digits_of what words row) (size ∙ sym (length_digits what words row)) (λ i k. s i k ∙ sym (digit_is what words row i (omega (arith, k, size)))) in
    ap (λ b. b && pointwise nat_eq digits (digits_of what words row)) (lt-ltb row (row_count what) l) ∙ ap (pointwise nat_eq digits) (sym e) ∙ nat_list_eq_equiv.refl digits

-- the report of so many tables
pub record Reported (ts : List Tally) (text : List ℕ) (tried equal n : ℕ) : Type 0 where
  pub text_is : text ≡ table_lines n ts
  pub tried_is : tried ≡ tried_in n ts
  pub equal_is : equal ≡ equal_in n ts

pub reported_first : (ts : List Tally) (text : List ℕ) → text ≡ [] → Reported ts text 0 0 0
unfolding table_lines tried_in equal_in
reported_first ts text h = record { text_is = h; tried_is = refl; equal_is = refl }

pub reported_next : (ts : List Tally) (text later : List ℕ) (tried equal later_tried later_equal n : ℕ) → Reported ts text tried equal n
    → later ≡ text ++ table_line (name_of n) (tally_of ts n) → later_tried ≡ plus tried (tally_of ts n).tried → later_equal ≡ plus equal (tally_of ts n).equal
    → Reported ts later later_tried later_equal (n + 1)
unfolding table_lines tried_in equal_in
reported_next ts text later tried equal later_tried later_equal n r t a b = record {
  text_is = t ∙ ap (λ s. s ++ table_line (name_of n) (tally_of ts n)) r.text_is ∙ ap (λ m. table_lines m ts) (sym (add-one n));
  tried_is = a ∙ ap (λ k. plus k (tally_of ts n).tried) r.tried_is ∙ ap (λ m. tried_in m ts) (sym (add-one n));
  equal_is = b ∙ ap (λ k. plus k (tally_of ts n).equal) r.equal_is ∙ ap (λ m. equal_in m ts) (sym (add-one n));
}

pub reported_all : (ts : List Tally) (text whole : List ℕ) (tried equal n : ℕ) → Reported ts text tried equal n → n ≡ 6 → whole ≡ text ++ last_line tried equal
    → (whole ≡ report_text ts) × ((tried == equal) ≡ all_equal ts)
reported_all ts text whole tried equal n r e w =
    let t : text ≡ table_lines 6 ts = r.text_is ∙ ap (λ m. table_lines m ts) e in
    let a : tried ≡ tried_in 6 ts = r.tried_is ∙ ap (λ m. tried_in m ts) e in
    let b : equal ≡ equal_in 6 ts = r.equal_is ∙ ap (λ m. equal_in m ts) e in
    (w ∙ ap₂ (λ x y. x ++ y) t (ap₂ last_line a b), ap₂ (λ x y. x == y) a b)

-- An error before anything is written, and one of writing.
abbrev six_of_none : List Tally
six_of_none = replicate 6 none_told

err_writes : {A E : Type 0} (old new : Option (List ℕ)) (r : Result A E) (text : List ℕ) → IsErr r → AppendsFront old new text → Writes old new r text
err_writes old new (Ok x) text h f = absurd cc
err_writes old new (Err e) text h f = f

err_any : {A E : Type 0} (P : A → Type 0) (r : Result A E) → IsErr r → IfOk r P
err_any P (Ok x) h = absurd cc
err_any P (Err e) h = tt

pub not_written : {E : Type 0} (old new : Option (List ℕ)) (r : Result Bool E) → IsErr r → Appends old new [] → Reports old new r
not_written old new r h a = (six_of_none, refl, err_writes old new r (report_text six_of_none) h ([], report_text six_of_none, refl, a), err_any _ r h)

pub cut_report : {E : Type 0} (old new : Option (List ℕ)) (r : Result Bool E) (ts : List Tally) (text : List ℕ) → IsErr r → AppendsFront old new text → length ts ≡ 6 → text ≡ report_text ts → Reports old new r
cut_report old new r ts text h f size e = (ts, size, err_writes old new r (report_text ts) h (subst (AppendsFront old new) e f), err_any _ r h)
