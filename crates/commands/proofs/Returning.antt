-- Records come back from their text.
use Rattle.std.proofs.Common.{◌≡◌, ℕ, zero, suc, ◌+◌, ◌/◌, ◌%◌, ◌<◌, Bool, true, false, eqb, ltb, List, [], ◌∷◌, ◌++◌, length, get_or, length-append, append_assoc, ap, ◌∙◌, refl, inl, inr, Some, Ok, codes, arith}
use Rattle.std.proofs.lemmas.Bool.{eq-eqb, le-leb, ne_eqb, cases_Bool}
use Rattle.commands.proofs.Texts.{lower_digits_at}
use Rattle.std.proofs.lemmas.List.{take_at, drop_at}
use Rattle.std.proofs.lemmas.List.Splits.{slice_split_at}
use Rattle.std.specs.List.{slice_split}
use Rattle.hex.specs.Hex.{encode_lower, encode_with, lower_digits, decode_sized, IsBytes}
use Rattle.hex.proofs.HexLemmas.{decode_pairs-encode_with, length-encode_with, IsDigits-lower_digits}
use Rattle.blocks.specs.Records.{Item, data_item, control_item, bad_item, note_item, look}
use Rattle.commands.specs.Walks.{behind}
use Rattle.blocks.specs.Walk.{bytes_of, bytes, Whole, AllWhole}
use Rattle.commands.specs.Text.{item_line, then_lines, lines_from, line_record, with_kind, then_records, records_in, records_of_text, TextsComeBack}

abbrev feed : ℕ → Bool
feed b = eqb b 10

-- no digit is a line feed
no_feed : (n : ℕ) → n < 16 → feed (get_or lower_digits n 0) ≡ false
no_feed n l = elim (cases_Bool (ltb n 10)) [
  | inl e ↦ ne_eqb _ _ (λ h. absurd (omega (arith, rw e at (lower_digits_at n l), h)))
  | inr e ↦ ne_eqb _ _ (λ h. absurd (omega (arith, rw e at (lower_digits_at n l), h)))
]

abbrev OneLine : List ℕ → Type 0
OneLine [] = Unit {0}
OneLine (x ∷ xs) = (feed x ≡ false) × OneLine xs

one_line_all : (xs : List ℕ) → OneLine xs → (k : ℕ) (d : ℕ) → k < length xs → feed (get_or xs k d) ≡ false
one_line_all [] o k d l = absurd (omega arith)
one_line_all (x ∷ xs) o zero d l = o.0
one_line_all (x ∷ xs) o (suc k) d l = one_line_all xs o.1 k d (omega arith)

digits_on_one_line : (body : List ℕ) → IsBytes body → OneLine (encode_lower body)
unfolding encode_with
digits_on_one_line [] small = tt
digits_on_one_line (b ∷ rest) small =
    let fits : b < 256 = small 0 in
    (no_feed (b / 16) (omega arith), (no_feed (b % 16) (omega arith), digits_on_one_line rest (λ i. small (suc i))))

decoded : (body : List ℕ) (size : ℕ) → length body ≡ size → IsBytes body → decode_sized (encode_lower body) size ≡ Ok body
decoded body size long small =
    let len = length-encode_with lower_digits body in
    let even : eqb (length (encode_lower body) % 2) 1 ≡ false = ne_eqb _ _ (λ h. absurd (omega (arith, len, h))) in
    let fit : eqb (length (encode_lower body) / 2) size ≡ true = eq-eqb _ _ (omega (arith, len)) in
    rw (even, fit) (decode_pairs-encode_with lower_digits IsDigits-lower_digits 0 body small)

-- a record's line without its end
abbrev word_line : Item → List ℕ
word_line (data_item body) = codes "data " ++ encode_lower body
word_line (control_item body) = codes "control " ++ encode_lower body
word_line (bad_item true body) = codes "bad11 " ++ encode_lower body
word_line (bad_item false body) = codes "bad00 " ++ encode_lower body
word_line (note_item body) = codes "note " ++ encode_lower body

ends : (r : Item) (more : List ℕ) → item_line r ++ more ≡ word_line r ++ (10 ∷ more)
ends (data_item body) more = ap (λ l. codes "data " ++ l) (append_assoc (encode_lower body) (10 ∷ []) more)
ends (control_item body) more = ap (λ l. codes "control " ++ l) (append_assoc (encode_lower body) (10 ∷ []) more)
ends (bad_item true body) more = ap (λ l. codes "bad11 " ++ l) (append_assoc (encode_lower body) (10 ∷ []) more)
ends (bad_item false body) more = ap (λ l. codes "bad00 " ++ l) (append_assoc (encode_lower body) (10 ∷ []) more)
ends (note_item body) more = ap (λ l. codes "note " ++ l) (append_assoc (encode_lower body) (10 ∷ []) more)

on_one_line : (r : Item) → IsBytes (bytes_of r) → OneLine (word_line r)
on_one_line (data_item body) small = (refl, (refl, (refl, (refl, (refl, digits_on_one_line body (λ i. small (suc i)))))))
on_one_line (control_item body) small = (refl, (refl, (refl, (refl, (refl, (refl, (refl, (refl, digits_on_one_line body (λ i. small (suc i))))))))))
on_one_line (bad_item true body) small = (refl, (refl, (refl, (refl, (refl, (refl, digits_on_one_line body (λ i. small (suc i))))))))
on_one_line (bad_item false body) small = (refl, (refl, (refl, (refl, (refl, (refl, digits_on_one_line body (λ i. small (suc i))))))))
on_one_line (note_item body) small = (refl, (refl, (refl, (refl, (refl, digits_on_one_line body (λ i. small (suc i)))))))

line_read : (r : Item) → Whole r → IsBytes (bytes_of r) → line_record (word_line r) ≡ Ok (bytes_of r)
unfolding line_record
line_read (data_item body) w small = ap (with_kind 2 8) (decoded body 8 w (λ i. small (suc i)))
line_read (control_item body) w small = ap (with_kind 1 8) (decoded body 8 w (λ i. small (suc i)))
line_read (bad_item true body) w small = ap (with_kind 3 8) (decoded body 8 w (λ i. small (suc i)))
line_read (bad_item false body) w small = ap (with_kind 0 8) (decoded body 8 w (λ i. small (suc i)))
line_read (note_item body) w small = ap (with_kind 16 3) (decoded body 3 w (λ i. small (suc i)))

looked : (n : ℕ) (r : Item) (xs : List ℕ) → Whole r → look n (bytes_of r ++ xs) ≡ Ok (Some (n, r))
unfolding look
looked n (data_item body) xs w = rw (le-leb 8 (length (body ++ xs)) (omega (arith, w, length-append body xs)), take_at body xs 8 w) refl
looked n (control_item body) xs w = rw (le-leb 8 (length (body ++ xs)) (omega (arith, w, length-append body xs)), take_at body xs 8 w) refl
looked n (bad_item true body) xs w = rw (le-leb 8 (length (body ++ xs)) (omega (arith, w, length-append body xs)), take_at body xs 8 w) refl
looked n (bad_item false body) xs w = rw (le-leb 8 (length (body ++ xs)) (omega (arith, w, length-append body xs)), take_at body xs 8 w) refl
looked n (note_item body) xs w = rw (le-leb 3 (length (body ++ xs)) (omega (arith, w, length-append body xs)), take_at body xs 3 w) refl

some_bytes : (r : Item) → 0 < length (bytes_of r)
some_bytes (data_item body) = omega arith
some_bytes (control_item body) = omega arith
some_bytes (bad_item ones body) = omega arith
some_bytes (note_item body) = omega arith

behind_it : (r : Item) (xs : List ℕ) → Whole r → behind (bytes_of r ++ xs) ≡ xs
behind_it (data_item body) xs w = drop_at body xs 8 w
behind_it (control_item body) xs w = drop_at body xs 8 w
behind_it (bad_item true body) xs w = drop_at body xs 8 w
behind_it (bad_item false body) xs w = drop_at body xs 8 w
behind_it (note_item body) xs w = drop_at body xs 3 w

-- the text of records
abbrev lines_of : List Item → List ℕ
lines_of [] = []
lines_of (r ∷ rs) = item_line r ++ lines_of rs

listed_items : (rs : List Item) (m n : ℕ) → AllWhole rs → length (bytes rs) < m → lines_from m n (bytes rs) ≡ lines_of rs
unfolding lines_from look bytes
listed_items rs zero n w l = absurd (omega arith)
listed_items [] (suc m) n w l = refl
listed_items (r ∷ rs) (suc m) n w l =
    let later = lines_from m (suc n) (behind (bytes_of r ++ bytes rs)) in
    ap (λ o. then_lines o later) (looked n r (bytes rs) w.0)
    ∙ ap (λ s. item_line r ++ lines_from m (suc n) s) (behind_it r (bytes rs) w.0)
    ∙ ap (λ s. item_line r ++ s) (listed_items rs m (suc n) w.1 (omega (arith, length-append (bytes_of r) (bytes rs), some_bytes r)))

front_small : (xs ys : List ℕ) → IsBytes (xs ++ ys) → IsBytes xs
front_small [] ys h i = omega arith
front_small (x ∷ xs) ys h zero = h 0
front_small (x ∷ xs) ys h (suc i) = front_small xs ys (λ k. h (suc k)) i

back_small : (xs ys : List ℕ) → IsBytes (xs ++ ys) → IsBytes ys
back_small [] ys h = h
back_small (x ∷ xs) ys h = back_small xs ys (λ k. h (suc k))

read_items : (rs : List Item) (n : ℕ) → AllWhole rs → IsBytes (bytes rs) → records_in n (slice_split (λ b. eqb b 10) (lines_of rs)) ≡ Ok (bytes rs)
unfolding records_in line_record bytes
read_items [] n w small = refl
read_items (r ∷ rs) n w small =
    let one : IsBytes (bytes_of r) = λ i. front_small (bytes_of r) (bytes rs) small i in
    let others : IsBytes (bytes rs) = λ i. back_small (bytes_of r) (bytes rs) small i in
    ap (λ s. records_in n (slice_split (λ b. eqb b 10) s)) (ends r (lines_of rs))
    ∙ ap (records_in n) (slice_split_at (λ b. eqb b 10) (word_line r) 10 (lines_of rs) (one_line_all (word_line r) (on_one_line r one)) refl)
    ∙ ap (λ o. then_records n o (records_in (n + 1) (slice_split (λ b. eqb b 10) (lines_of rs)))) (line_read r w.0 one)
    ∙ ap (λ o. then_records n (Ok (bytes_of r)) o) (read_items rs (n + 1) w.1 others)

pub texts_come_back : TextsComeBack
texts_come_back rs w small =
    ap records_of_text (listed_items rs (suc (length (bytes rs))) 0 w (omega arith)) ∙ read_items rs 1 w small
