-- Where a run of the command `groups` stands behind so many groups, and what each step leaves.
use Rattle.std.proofs.Common.{◌≡◌, ℕ, zero, suc, ◌+◌, ◌*◌, ◌<◌, ◌≤◌, List, [], ◌∷◌, ◌++◌, length, take, drop, length-append, length-take-le, append_assoc, append-nil, ap, ◌∙◌, subst, sym, refl, ◌-◌, drop_of_length-le, Option, None, Some, Ok, Err, Result, arith, inl, inr}
use Rattle.std.specs.Result.{IsErr}
use Rattle.std.proofs.lemmas.List.{drop-drop, take-append-le, drop-append-le, take_all}
use Rattle.std.proofs.lemmas.Bool.{cases_lt}
use Rattle.std.specs.Io.KnownBytes.{Appends, Consumes, IsAtEnd}
use Rattle.std.proofs.KnownBytes.{Appends-trans}
use Rattle.blocks.specs.declared.refusal.Refusal.{Refusal}
use Rattle.blocks.specs.declared.refusal.Refusal.TheVariants.{Length}
use Rattle.blocks.specs.Blocks.{blocks_in}
use Rattle.blocks.specs.Groups.{group_bits, group_octets}
use Rattle.blocks.specs.Refusals.{text_of}
use Rattle.commands.specs.Groups.{first_refused, four, group_count, lines, refusal_behind, groups_of, refusal_of, last_line, first_line, printed, Answers}
use Rattle.commands.specs.Lines.{line_of}
use Rattle.commands.specs.Streams.{AppendsFront, Prints}
use Rattle.commands.proofs.Records.{refused_from, not_refused_from, not_refused, refused_at_end}

-- What a writer holds grew by s, and then by a part of t.
pub front_more : (a b c : Option (List ℕ)) (s t left text : List ℕ) → text ≡ s ++ (t ++ left) → Appends a b s → AppendsFront b c t → AppendsFront a c text
front_more a b c s t left text e p (done, rest, f, q) = (
  s ++ done,
  rest ++ left,
  e ∙ ap (λ l. s ++ (l ++ left)) f ∙ ap (λ l. s ++ l) (append_assoc done rest left) ∙ sym (append_assoc s done (rest ++ left)),
  Appends-trans a b c s done p q,
)

pub front_here : (a b : Option (List ℕ)) (s left text : List ℕ) → text ≡ s ++ left → Appends a b s → AppendsFront a b text
front_here a b s left text e p = (s, left, e, p)

abbrev pub group_text : List ℕ → List ℕ
group_text piece = line_of (group_octets (group_bits (blocks_in 4 piece)))

-- the lines of g groups and then of m more
lines_add : (g m : ℕ) (xs : List ℕ) → lines (g + m) xs ≡ lines g xs ++ lines m (drop (36 * g) xs)
unfolding lines
lines_add zero m xs = ap (λ n. lines n xs) (omega arith)
lines_add (suc g) m xs =
    let next : suc g + m ≡ suc (g + m) = omega arith in
    let far : drop (36 * g) (drop 36 xs) ≡ drop (36 * suc g) xs = drop-drop (36 * g) 36 xs ∙ ap (λ n. drop n xs) (omega arith) in
    ap (λ n. lines n xs) next ∙ ap (λ l. group_text (four xs) ++ l) (lines_add g m (drop 36 xs) ∙ ap (λ l. lines g (drop 36 xs) ++ lines m l) far)
    ∙ sym (append_assoc (group_text (four xs)) (lines g (drop 36 xs)) (lines m (drop (36 * suc g) xs)))

-- g groups of xs are printed, and rest stands behind them
pub record Behind (xs rest : List ℕ) (g : ℕ) : Type 0 where
  pub here : rest ≡ drop (36 * g) xs
  pub most : ℕ
  pub enough : length rest ≤ most
  pub counted : groups_of xs ≡ g + group_count most rest

-- what is printed by then
abbrev pub text_so_far : List ℕ → ℕ → List ℕ
text_so_far xs g = first_line ++ lines g xs

pub begun : (xs : List ℕ) → Behind xs xs 0
begun xs = record { here = refl; most = length xs; enough = omega arith; counted = omega arith }

-- the text goes on behind it
goes_on : (xs rest : List ℕ) (g : ℕ) (h : Behind xs rest g) → printed xs ≡ text_so_far xs g ++ (lines (group_count h.most rest) rest ++ last_line (refusal_of xs))
goes_on xs rest g h =
    let all : lines (groups_of xs) xs ≡ lines g xs ++ lines (group_count h.most rest) rest =
    ap (λ n. lines n xs) h.counted ∙ lines_add g (group_count h.most rest) xs ∙ ap (λ l. lines g xs ++ lines (group_count h.most rest) l) (sym h.here) in
    ap (λ l. first_line ++ (l ++ last_line (refusal_of xs))) all
    ∙ ap (λ l. first_line ++ l) (append_assoc (lines g xs) _ _)
    ∙ sym (append_assoc first_line (lines g xs) _)

-- the bytes of a piece, and that more are left only behind a whole one
piece_is : (rest piece more : List ℕ) → rest ≡ piece ++ more → length piece ≤ 36 → (length piece < 36 → more ≡ []) → four rest ≡ piece
piece_is rest piece more e l h = elim (cases_lt (length piece) 36) [
  | inr w ↦ ap four e ∙ take-append-le 36 piece more w ∙ take_all 36 piece l
  | inl s ↦ ap four (e ∙ ap (λ l. piece ++ l) (h s) ∙ append-nil piece) ∙ take_all 36 piece l
]

no_group : (m g : ℕ) (rest : List ℕ) (e : Refusal) → first_refused 4 (4 * g) (four rest) ≡ Some e → group_count m rest ≡ 0
unfolding group_count
no_group zero g rest e h = refl
no_group (suc m) g rest e h = elim (refused_from 4 (4 * g) 0 (four rest) e h) [
  | inl (r, s) ↦ rw s refl
  | inr (j, r, l, s) ↦ rw s refl
]

a_group : (m g : ℕ) (rest : List ℕ) → first_refused 4 (4 * g) (four rest) ≡ None → group_count (suc m) rest ≡ suc (group_count m (drop 36 rest))
unfolding group_count
a_group m g rest h = rw (not_refused_from 4 (4 * g) 0 (four rest) h) refl

nothing_counts : (m : ℕ) → group_count m [] ≡ 0
nothing_counts m = no_group m 0 [] Length (refused_at_end 3 0)

-- behind the last group
ended : (xs rest : List ℕ) (g : ℕ) (r : Option Refusal) → Behind xs rest g → ((m : ℕ) → group_count m rest ≡ 0) → refusal_behind g rest ≡ r
    → (refusal_of xs ≡ r) × (printed xs ≡ text_so_far xs g ++ last_line r)
unfolding lines
ended xs rest g r h none why =
    let n : groups_of xs ≡ g = h.counted ∙ ap (λ m. g + m) (none h.most) ∙ omega arith in
    let same : refusal_of xs ≡ r = ap (λ m. refusal_behind m (drop (36 * m) xs)) n ∙ ap (refusal_behind g) (sym h.here) ∙ why in
    (same, goes_on xs rest g h ∙ ap (λ m. text_so_far xs g ++ (lines m rest ++ last_line (refusal_of xs))) (none h.most) ∙ ap (λ l. text_so_far xs g ++ last_line l) same)

pub record Took (old new : Option (List ℕ)) (piece : List ℕ) : Type 0 where
  pub bytes : Consumes old new piece
  pub size : length piece ≤ 36
  pub end : length piece < 36 → IsAtEnd new

-- a run over an input, a reader, the writer at first and now
abbrev pub Stands : Option (List ℕ) → Option (List ℕ) → Option (List ℕ) → Option (List ℕ) → ℕ → Type 0
Stands None left old new g = Unit {0}
Stands (Some xs) None old new g = ⊥
Stands (Some xs) (Some rest) old new g = Behind xs rest g × Appends old new (text_so_far xs g)

pub stands_first : (input old new : Option (List ℕ)) → Appends old new first_line → Stands input input old new 0
unfolding lines
stands_first None old new p = tt
stands_first (Some xs) old new p = (begun xs, subst (Appends old new) (sym (append-nil first_line)) p)

err_prints : {A E : Type 0} (xs : List ℕ) (old new : Option (List ℕ)) (r : Result A E) → IsErr r → AppendsFront old new (printed xs) → Prints (Some xs) printed old new r
err_prints xs old new (Ok x) h f = absurd cc
err_prints xs old new (Err e) h f = f

pub first_cut : {A E : Type 0} (input old new : Option (List ℕ)) (r : Result A E) → IsErr r → AppendsFront old new first_line → Prints input printed old new r
first_cut None old new r h f = tt
first_cut (Some xs) old new r h (done, left, e, p) =
    let more = lines (groups_of xs) xs ++ last_line (refusal_of xs) in
    err_prints xs old new r h (done, left ++ more, ap (λ l. l ++ more) e ∙ append_assoc done left more, p)

pub cut_between : {A E : Type 0} (input left old new : Option (List ℕ)) (g : ℕ) (r : Result A E) → IsErr r → Stands input left old new g → Prints input printed old new r
cut_between None left old new g r h s = tt
cut_between (Some xs) None old new g r h s = absurd s
cut_between (Some xs) (Some rest) old new g r h (b, p) = err_prints xs old new r h (front_here old new _ _ _ (goes_on xs rest g b) p)

-- The input has ended.
pub all_printed : (E : Type 0) (input left later old new : Option (List ℕ)) (g : ℕ) → Stands input left old new g → Took left later []
    → Prints {A = Option Refusal} {E = E} input printed old new (Ok None) × Answers {E = E} input (Ok None)
all_printed E None left later old new g s t = (tt, tt)
all_printed E (Some xs) None later old new g s t = absurd s
all_printed E (Some xs) (Some rest) None old new g s t = absurd t.bytes
all_printed E (Some xs) (Some rest) (Some more) old new g (b, p) t =
    let empty : rest ≡ [] = t.bytes ∙ t.end (omega arith) in
    let e = ended xs rest g None b (λ m. ap (group_count m) empty ∙ nothing_counts m) (ap (refusal_behind g) empty) in
    (subst (Appends old new) (sym (e.1 ∙ append-nil (text_so_far xs g))) p, sym e.0)

-- A piece is refused.
refused_text : (xs rest piece more : List ℕ) (g : ℕ) (e : Refusal) → Behind xs rest g → rest ≡ piece ++ more → length piece ≤ 36 → (length piece < 36 → more ≡ []) → 0 < length piece
    → first_refused 4 (4 * g) piece ≡ Some e → (refusal_of xs ≡ Some e) × (printed xs ≡ text_so_far xs g ++ (text_of e ++ 10 ∷ []))
refused_text xs rest [] more g e b same size end some h = absurd (omega arith)
refused_text xs rest (x ∷ piece) more g e b same size end some h =
    let four_is : four rest ≡ x ∷ piece = piece_is rest (x ∷ piece) more same size end in
    let why : refusal_behind g rest ≡ Some e = ap (refusal_behind g) same ∙ ap (first_refused 4 (4 * g)) (sym (ap four same) ∙ four_is) ∙ h in
    ended xs rest g (Some e) b (λ m. no_group m g rest e (ap (first_refused 4 (4 * g)) four_is ∙ h)) why

pub refusal_printed : (E : Type 0) (input left later old mid new : Option (List ℕ)) (g : ℕ) (piece : List ℕ) (e : Refusal) → Stands input left old mid g → Took left later piece → 0 < length piece
    → first_refused 4 (4 * g) piece ≡ Some e → Appends mid new (text_of e ++ 10 ∷ [])
    → Prints {A = Option Refusal} {E = E} input printed old new (Ok (Some e)) × Answers {E = E} input (Ok (Some e))
refusal_printed E None left later old mid new g piece e s t some h w = (tt, tt)
refusal_printed E (Some xs) None later old mid new g piece e s t some h w = absurd s
refusal_printed E (Some xs) (Some rest) None old mid new g piece e s t some h w = absurd t.bytes
refusal_printed E (Some xs) (Some rest) (Some more) old mid new g piece e (b, p) t some h w =
    let r = refused_text xs rest piece more g e b t.bytes t.size t.end some h in
    (subst (Appends old new) (sym r.1) (Appends-trans old mid new _ _ p w), sym r.0)

pub refusal_cut : {A E : Type 0} (input left later old mid new : Option (List ℕ)) (g : ℕ) (piece : List ℕ) (e : Refusal) (r : Result A E) → IsErr r → Stands input left old mid g → Took left later piece → 0 < length piece
    → first_refused 4 (4 * g) piece ≡ Some e → AppendsFront mid new (text_of e ++ 10 ∷ []) → Prints input printed old new r
refusal_cut None left later old mid new g piece e r i s t some h w = tt
refusal_cut (Some xs) None later old mid new g piece e r i s t some h w = absurd s
refusal_cut (Some xs) (Some rest) None old mid new g piece e r i s t some h w = absurd t.bytes
refusal_cut (Some xs) (Some rest) (Some more) old mid new g piece e r i (b, p) t some h w =
    let f = refused_text xs rest piece more g e b t.bytes t.size t.end some h in
    err_prints xs old new r i (front_more old mid new _ _ [] _ (f.1 ∙ ap (λ l. text_so_far xs g ++ l) (sym (append-nil (text_of e ++ 10 ∷ [])))) p w)

-- A group is printed.
next_group : (xs rest piece more : List ℕ) (g : ℕ) → Behind xs rest g → rest ≡ piece ++ more → length piece ≤ 36 → (length piece < 36 → more ≡ [])
    → first_refused 4 (4 * g) piece ≡ None → Behind xs more (g + 1) × (text_so_far xs (g + 1) ≡ text_so_far xs g ++ group_text piece)
unfolding lines
next_group xs rest piece more g b same size end h =
    let whole : length piece ≡ 36 = (not_refused piece size (not_refused_from 4 (4 * g) 0 piece h)).0 in
    let four_is : four rest ≡ piece = piece_is rest piece more same size end in
    let room : length rest ≡ length piece + length more = ap length same ∙ length-append piece more in
    let behind_it : drop 36 rest ≡ more = ap (drop 36) same ∙ drop-append-le 36 piece more (omega arith) ∙ ap (λ l. l ++ more) (drop_of_length-le piece {i = 36} (omega arith)) in
    let one : lines 1 (drop (36 * g) xs) ≡ group_text piece = append-nil _ ∙ ap (λ l. group_text (four l)) (sym b.here) ∙ ap group_text four_is in
    let m = b.most - 1 in
    let most_is : b.most ≡ suc m = omega (arith, b.enough) in
    let count : group_count b.most rest ≡ suc (group_count m more) =
    ap (λ n. group_count n rest) most_is ∙ a_group m g rest (ap (first_refused 4 (4 * g)) four_is ∙ h) ∙ ap (λ l. suc (group_count m l)) behind_it in (
      record {
        here = sym behind_it ∙ ap (drop 36) b.here ∙ drop-drop 36 (36 * g) xs ∙ ap (λ n. drop n xs) (omega arith);
        most = m;
        enough = omega (arith, b.enough);
        counted = b.counted ∙ ap (λ n. g + n) count ∙ omega arith;
      },
      ap (λ l. first_line ++ l) (lines_add g 1 xs ∙ ap (λ l. lines g xs ++ l) one) ∙ sym (append_assoc first_line (lines g xs) (group_text piece)),
    )

pub group_printed : (input left later old mid new : Option (List ℕ)) (g : ℕ) (piece : List ℕ) → Stands input left old mid g → Took left later piece
    → first_refused 4 (4 * g) piece ≡ None → Appends mid new (group_text piece) → Stands input later old new (g + 1)
group_printed None left later old mid new g piece s t h w = tt
group_printed (Some xs) None later old mid new g piece s t h w = absurd s
group_printed (Some xs) (Some rest) None old mid new g piece s t h w = absurd t.bytes
group_printed (Some xs) (Some rest) (Some more) old mid new g piece (b, p) t h w =
    let n = next_group xs rest piece more g b t.bytes t.size t.end h in
    (n.0, subst (Appends old new) (sym n.1) (Appends-trans old mid new _ _ p w))

pub group_cut : {A E : Type 0} (input left later old mid new : Option (List ℕ)) (g : ℕ) (piece : List ℕ) (r : Result A E) → IsErr r → Stands input left old mid g → Took left later piece
    → first_refused 4 (4 * g) piece ≡ None → AppendsFront mid new (group_text piece) → Prints input printed old new r
group_cut None left later old mid new g piece r i s t h w = tt
group_cut (Some xs) None later old mid new g piece r i s t h w = absurd s
group_cut (Some xs) (Some rest) None old mid new g piece r i s t h w = absurd t.bytes
group_cut (Some xs) (Some rest) (Some more) old mid new g piece r i (b, p) t h w =
    let n = next_group xs rest piece more g b t.bytes t.size t.end h in
    let later_text = lines (group_count n.0.most more) more ++ last_line (refusal_of xs) in
    let whole : printed xs ≡ text_so_far xs g ++ (group_text piece ++ later_text) = goes_on xs more (g + 1) n.0 ∙ ap (λ l. l ++ later_text) n.1 ∙ append_assoc (text_so_far xs g) (group_text piece) later_text in
    err_prints xs old new r i (front_more old mid new _ _ later_text _ whole p w)

-- what a buffer of 36 bytes took
pub took : (old new : Option (List ℕ)) (n : ℕ) (buf : List ℕ) → length buf ≡ 36 → n ≤ length buf → Consumes old new (take n buf) × (n < length buf → IsAtEnd new) → Took old new (take n buf)
took old new n buf size fits f =
    let long : length (take n buf) ≡ n = length-take-le n buf fits in
    record { bytes = f.0; size = omega arith; end = λ h. f.1 (omega arith) }
