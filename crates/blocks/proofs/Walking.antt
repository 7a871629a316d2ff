-- Steps of a reader, and what its reads answer on any buffer.
use Rattle.std.proofs.Common.{◌≡◌, ℕ, zero, suc, ◌+◌, ◌<◌, ◌≤◌, ◌⊎◌, true, false, leb, List, [], ◌∷◌, ◌++◌, length, get_or, take, drop, replicate, Some, None, Ok, Err, sym, refl, ap, ◌∙◌, subst, ap₂, inl, inr, append_assoc, add-one, zero-add, arith, length-append, length-drop}
use Rattle.std.proofs.lemmas.List.{take_at, drop_at, drop-drop, take-append-drop, length-take-le}
use Rattle.std.proofs.lemmas.Bool.{le-leb, lt-leb, leb-true, eqb-true, cases_Bool, cases_lt}
use Rattle.blocks.specs.declared.refusal.Refusal.TheVariants.{Length, Kind}
use Rattle.blocks.specs.declared.block.Header.TheVariants.{Zeros, Control, Data, Ones}
use Rattle.blocks.specs.declared.reader.Kind.{Kind as RecordKind}
use Rattle.blocks.specs.declared.reader.Kind.TheVariants.{Block, Note}
use Rattle.blocks.specs.Records.{Item, data_item, control_item, bad_item, note_item, known, size_of, item_of, look, record_size, offset_of, rest_at, moved, reads}
use Rattle.blocks.specs.Walk.{kind_byte, bytes_of, bytes, Whole, AllWhole, Ends, ending, numbered, Parts, Visits}

pub at_end : (s : List ℕ) (n : ℕ) → rest_at s n ≡ [] → look n (rest_at s n) ≡ Ok None
unfolding look
at_end s n e = ap (look n) e

-- record n begins with a byte that no kind has
pub unknown : (s : List ℕ) (n k : ℕ) (rest : List ℕ) → rest_at s n ≡ k ∷ rest → known k ≡ false → look n (rest_at s n) ≡ Err (Kind n)
unfolding look
unknown s n k rest front e = ap (look n) front ∙ rw e refl

-- its first byte, and what stands behind it
pub front_and_rest : (xs : List ℕ) → 0 < length xs → xs ≡ get_or xs 0 0 ∷ drop 1 xs
front_and_rest [] h = absurd (omega arith)
front_and_rest (x ∷ xs) h = refl

kind_known : (kind : RecordKind) → known (kind_byte kind) ≡ true
kind_known (Block Zeros) = refl
kind_known (Block Control) = refl
kind_known (Block Data) = refl
kind_known (Block Ones) = refl
kind_known Note = refl

offset_next : (s : List ℕ) (n : ℕ) → offset_of s (n + 1) ≡ offset_of s n + record_size (rest_at s n)
unfolding offset_of
offset_next s n = rw add-one refl

-- what is left after n records begins with the byte k of a kind, whose body has that size
module _ (s left : List ℕ) (n k : ℕ) (rest : List ℕ) (kind : RecordKind) (size : ℕ) (placed : left ≡ rest_at s n) (begins : left ≡ k ∷ rest) (byte : kind_byte kind ≡ k) (sized : size ≡ size_of (kind_byte kind)) where
  front : rest_at s n ≡ kind_byte kind ∷ rest
  front = sym placed ∙ begins ∙ ap (λ (b : ℕ). b ∷ rest) (sym byte)

  pub cut_short : length rest < size → look n (rest_at s n) ≡ Err Length
  unfolding look
  cut_short h = let l : leb (size_of (kind_byte kind)) (length rest) ≡ false = rw (← sized) (lt-leb _ _ h) in ap (look n) front ∙ rw (kind_known kind, l) refl

  pub stands : size ≤ length rest → look n (rest_at s n) ≡ Ok (Some (n, item_of (kind_byte kind) (take size rest)))
  unfolding look
  stands h =
      let l : leb (size_of (kind_byte kind)) (length rest) ≡ true = rw (← sized) (le-leb _ _ h) in
      ap (look n) front ∙ rw (kind_known kind, l, ← sized) refl

  pub offset_on : offset_of s (n + 1) ≡ offset_of s n + (1 + size)
  offset_on = offset_next s n ∙ ap (λ (xs : List ℕ). offset_of s n + record_size xs) front ∙ ap (λ (j : ℕ). offset_of s n + (1 + j)) (sym sized)

  pub goes_on : drop (1 + size) left ≡ rest_at s (n + 1)
  goes_on = ap (drop (1 + size)) placed ∙ drop-drop (1 + size) (offset_of s n) s ∙ ap (λ (j : ℕ). drop j s) (sym offset_on)

-- a known byte, and the item of its record
known_cases : (k : ℕ) → known k ≡ true → (k ≡ 16) ⊎ (k < 4)
known_cases k h = elim (cases_Bool (leb k 3)) [
  | inl e ↦ let l = leb-true k 3 e in inr (omega arith)
  | inr e ↦ inl (eqb-true k 16 (rw e at h))
]

record Shaped (k : ℕ) (body : List ℕ) : Type 0 where
  long : length body ≡ size_of k → Whole (item_of k body)
  starts : bytes_of (item_of k body) ≡ k ∷ body

small_shaped : (k : ℕ) (body : List ℕ) → k < 4 → Shaped k body
small_shaped zero body l = record { long = λ h. h; starts = refl }
small_shaped (suc zero) body l = record { long = λ h. h; starts = refl }
small_shaped (suc (suc zero)) body l = record { long = λ h. h; starts = refl }
small_shaped (suc (suc (suc zero))) body l = record { long = λ h. h; starts = refl }
small_shaped (suc (suc (suc (suc k)))) body l = absurd (omega arith)

shaped : (k : ℕ) (body : List ℕ) → known k ≡ true → Shaped k body
shaped k body h = elim (known_cases k h) [
  | inl e ↦ subst (λ (j : ℕ). Shaped j body) (sym e) (record { long = λ l. l; starts = refl })
  | inr l ↦ small_shaped k body l
]

-- records and what is left, of n bytes at most
cut : (n : ℕ) (xs : List ℕ) → length xs ≤ n → Parts xs
unfolding bytes
cut n [] l = record { records = []; left = []; whole = tt; ends = tt; all = refl }
cut zero (k ∷ xs) l = absurd (omega arith)
cut (suc n) (k ∷ xs) l = elim (cases_Bool (known k)) [
  | inr u ↦ record { records = []; left = k ∷ xs; whole = tt; ends = λ h. absurd (cc); all = refl }
  | inl u ↦ elim (cases_lt (length xs) (size_of k)) [
    | inl s ↦ record { records = []; left = k ∷ xs; whole = tt; ends = λ h. s; all = refl }
    | inr s ↦
        let size : ℕ = size_of k in
        let body : List ℕ = take size xs in
        let shape = shaped k body u in
        let rest = cut n (drop size xs) (rw length-drop (omega arith)) in
        record {
          records = item_of k body ∷ rest.records;
          left = rest.left;
          whole = (shape.long (length-take-le size xs (omega arith)), rest.whole);
          ends = rest.ends;
          all = ap (λ (l : List ℕ). k ∷ l) (sym (take-append-drop size xs)) ∙ ap₂ (λ (u v : List ℕ). u ++ v) (sym shape.starts) rest.all ∙ sym (append_assoc (bytes_of (item_of k body)) (bytes rest.records) rest.left);
        }
  ]
]

looked : (n k size : ℕ) (body xs : List ℕ) → length body ≡ size → size ≡ size_of k → known k ≡ true → look n (k ∷ (body ++ xs)) ≡ Ok (Some (n, item_of k body))
unfolding look
looked n k size body xs w e q =
    let m : size ≤ length (body ++ xs) = rw length-append (omega arith) in
    let l : leb (size_of k) (length (body ++ xs)) ≡ true = rw (← e) (le-leb _ _ m) in
    let t : take (size_of k) (body ++ xs) ≡ body = rw (← e) (take_at body xs size w) in
    rw (q, l, t) refl

look-item : (n : ℕ) (r : Item) (xs : List ℕ) → Whole r → look n (bytes_of r ++ xs) ≡ Ok (Some (n, r))
look-item n (data_item body) xs w = looked n 2 8 body xs w refl refl
look-item n (control_item body) xs w = looked n 1 8 body xs w refl refl
look-item n (bad_item true body) xs w = looked n 3 8 body xs w refl refl
look-item n (bad_item false body) xs w = looked n 0 8 body xs w refl refl
look-item n (note_item body) xs w = looked n 16 3 body xs w refl refl

behind-item : (r : Item) (xs : List ℕ) → Whole r → drop (record_size (bytes_of r ++ xs)) (bytes_of r ++ xs) ≡ xs
behind-item (data_item body) xs w = drop_at body xs 8 w
behind-item (control_item body) xs w = drop_at body xs 8 w
behind-item (bad_item true body) xs w = drop_at body xs 8 w
behind-item (bad_item false body) xs w = drop_at body xs 8 w
behind-item (note_item body) xs w = drop_at body xs 3 w

-- what is left behind the next record
rest_behind : (s : List ℕ) (i : ℕ) (r : Item) (xs : List ℕ) → Whole r → rest_at s i ≡ bytes_of r ++ xs → rest_at s (i + 1) ≡ xs
rest_behind s i r xs w e =
    ap (λ (j : ℕ). drop j s) (offset_next s i) ∙ sym (drop-drop (record_size (rest_at s i)) (offset_of s i) s)
    ∙ ap (λ (ys : List ℕ). drop (record_size ys) ys) e ∙ behind-item r xs w

look_ends : (n : ℕ) (left : List ℕ) → Ends left → look n left ≡ ending n left
unfolding look
look_ends n [] e = refl
look_ends n (k ∷ xs) e = elim (cases_Bool (known k)) [
  | inl u ↦ let l : leb (size_of k) (length xs) ≡ false = lt-leb _ _ (e u) in rw (u, l) refl
  | inr u ↦ rw u refl
]

stays : (n : ℕ) (left : List ℕ) → moved (ending n left) n ≡ n
stays n [] = refl
stays n (k ∷ xs) = elim (cases_Bool (known k)) [
  | inl u ↦ rw u refl
  | inr u ↦ rw u refl
]

refused_again : (s left : List ℕ) (i n : ℕ) → Ends left → rest_at s i ≡ left → reads s i n ≡ replicate n (ending i left)
unfolding reads
refused_again s left i zero h e = refl
refused_again s left i (suc n) h e =
    let now : look i (rest_at s i) ≡ ending i left = ap (look i) e ∙ look_ends i left h in
    ap₂ (λ (a : _) (l : List _). a ∷ l) now
    (ap (λ (j : ℕ). reads s j n) (ap (λ a. moved a i) now ∙ stays i left) ∙ refused_again s left i n h e)

visited : (s : List ℕ) (rs : List Item) (left : List ℕ) (i n : ℕ) → AllWhole rs → Ends left → rest_at s i ≡ bytes rs ++ left →
    reads s i (length rs + n) ≡ numbered i rs ++ replicate n (ending (i + length rs) left)
unfolding reads bytes numbered
visited s [] left i n w h e =
    let z : i + 0 ≡ i = omega arith in
    let y : 0 + n ≡ n = omega arith in
    rw (z, y) (refused_again s left i n h e)
visited s (r ∷ rs) left i n w h e =
    let f : rest_at s i ≡ bytes_of r ++ (bytes rs ++ left) = e ∙ append_assoc (bytes_of r) (bytes rs) left in
    let now : look i (rest_at s i) ≡ Ok (Some (i, r)) = ap (look i) f ∙ look-item i r (bytes rs ++ left) w.0 in
    let m : suc (length rs) + n ≡ suc (length rs + n) = omega arith in
    let k : i + suc (length rs) ≡ suc i + length rs = omega arith in
    rw (m, k) (ap₂ (λ (a : _) (l : List _). a ∷ l) now
    (ap (λ (j : ℕ). reads s j (length rs + n)) (ap (λ a. moved a i) now ∙ add-one i)
    ∙ visited s rs left (suc i) n w.1 h (ap (rest_at s) (sym (add-one i)) ∙ rest_behind s i r (bytes rs ++ left) w.0 f)))

pub visits : Visits
unfolding offset_of
visits = record {
  parts = λ xs. cut (length xs) xs (omega arith);
  each = λ rs left n w h.
      visited (bytes rs ++ left) rs left 0 n w h refl ∙ ap (λ (k : ℕ). numbered 0 rs ++ replicate n (ending k left)) (zero-add (length rs));
}
