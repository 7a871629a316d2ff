-- Bits put one after another, and symbols out of them.
use Rattle.std.proofs.Common.{◌≡◌, ℕ, zero, suc, ◌+◌, ◌-◌, ◌*◌, ◌%◌, ◌^◌, ◌<◌, ◌≤◌, List, [], ◌∷◌, ◌++◌, bit_or, fold, length, get_or, reverse, take, drop, sym, refl, ap, ◌∙◌, subst, ap₂, append_assoc, append-nil, zero-add, inl, inr, arith, pow_mono, length-append, length-drop, length-take}
use borrow.Rule.Slice.PartMut.{put_mid, mid_of}
use Rattle.std.proofs.lemmas.Grind.{reverse_onto, or_after_shift}
use Rattle.std.proofs.lemmas.List.{ext_get_or, take_at, take_all, length-take-le, get_or-append-add, get_or-drop}
use Rattle.std.proofs.lemmas.List.Sums.{fold-append}
use Rattle.std.proofs.Math.Seq.{take-nil}
use Rattle.std.specs.Array.{IsFromFnResult}
use Rattle.std.specs.Fn.{Called, Mut}
use Rattle.bits.specs.Bits.{Binary, field, number, table, nth}
use Rattle.blocks.specs.Groups.{words}
use Rattle.bits.proofs.Octets.{put_at}
use Rattle.bits.proofs.Fields.{length-field, take-field}
use Rattle.bits.proofs.Binary.{binary_append, binary_take, binary_drop, binary_field}
use Rattle.std.proofs.lemmas.Bool.{cases_lt}
use Rattle.pairs.specs.Messages.{message_with}
use Rattle.pairs.specs.Packing.{IsZeroFrom}
use Rattle.bits.proofs.Tables.{length-table, nth-table}
use Rattle.code.proofs.Turns.{each_call}
use Rattle.bits.proofs.Numbers.{number_small}

-- the length behind an append
pub put_length : (old xs : List ℕ) {new : List ℕ} {k : ℕ} → new ≡ old ++ xs → length xs ≡ k → length new ≡ length old + k
put_length old xs e h = ap length e ∙ length-append old xs ∙ ap (λ (n : ℕ). length old + n) h

-- the first n of two lists, one behind the other
take_both : (n : ℕ) (xs ys : List ℕ) → take n (xs ++ ys) ≡ take n xs ++ take (n - length xs) ys
take_both zero xs ys = let e : 0 ≡ 0 - length xs = omega arith in ap (λ (k : ℕ). take k ys) e
take_both (suc n) [] ys = let e : suc n ≡ suc n - 0 = omega arith in ap (λ (k : ℕ). take k ys) e
take_both (suc n) (x ∷ xs) ys = ap (λ (l : List ℕ). x ∷ l) (take_both n xs ys ∙ (let e : n - length xs ≡ suc n - suc (length xs) = omega arith in ap (λ (k : ℕ). take n xs ++ take k ys) e))

pub with_more : (bits xs ys : List ℕ) → message_with (message_with bits xs) ys ≡ message_with bits (xs ++ ys)
with_more bits xs ys =
    let room : ℕ = 10280 - length bits in
    let size : length (message_with bits xs) ≡ length bits + length (take room xs) = length-append bits (take room xs) in
    let taken = length-take room xs in
    append_assoc bits (take room xs) (take (10280 - length (message_with bits xs)) ys)
    ∙ ap (λ (l : List ℕ). bits ++ l) (ap (λ (k : ℕ). take room xs ++ take k ys) (omega arith) ∙ sym (take_both room xs ys))

pub with_none : (bits : List ℕ) → bits ≡ message_with bits []
with_none bits = sym (ap (λ (l : List ℕ). bits ++ l) (take-nil (10280 - length bits)) ∙ append-nil bits)

pub with_fits : (bits more : List ℕ) → length bits + length more ≤ 10280 → message_with bits more ≡ bits ++ more
with_fits bits more h = ap (λ (l : List ℕ). bits ++ l) (take_all (10280 - length bits) more (omega arith))

-- one step more: `new` has `more` behind what was put so far
pub put_next : (entry so_far more : List ℕ) {bits new all : List ℕ} → bits ≡ message_with entry so_far → new ≡ message_with bits more → so_far ++ more ≡ all → new ≡ message_with entry all
put_next entry so_far more inv e f = e ∙ ap (λ (bs : List ℕ). message_with bs more) inv ∙ with_more entry so_far more ∙ ap (message_with entry) f

-- as many of n bits as there is room for
room_put : (front : List ℕ) (x m n : ℕ) → length front + m ≤ 10280 → m ≤ n → (m < n → length front + m ≡ 10280) → front ++ field x 0 m ≡ message_with front (field x 0 n)
room_put front x m n room some full =
    ap (λ (l : List ℕ). front ++ l) (elim (cases_lt m n) [
      | inl l ↦
          let f = full l in
          let e : n ≡ m + (n - m) = omega arith in
          let k : 10280 - length front ≡ m = omega arith in
          sym (ap₂ (λ (i j : ℕ). take i (field x 0 j)) k e ∙ take-field x 0 m (n - m))
      | inr k ↦
          let e : m ≡ n = omega arith in
          let size = length-field x 0 n in
          ap (field x 0) e ∙ sym (take_all (10280 - length front) (field x 0 n) (omega arith))
    ])

-- the lowest bits of x put behind n others of a message
module _ (n end count x : ℕ) (bits part : List ℕ) (size : length bits ≡ 10280) (begins : n ≤ end) (ends : end ≤ 10280) (written : part ≡ field x 0 (length (mid_of n (end - n) bits))) where
  abbrev pub m : ℕ
  m = end - n

  part_is : part ≡ field x 0 m
  part_is = written ∙ ap (field x 0) (length-take-le m (drop n bits) (simp length-drop (omega arith)))

  abbrev pub front : List ℕ
  front = take n bits ++ field x 0 m

  front_size : length front ≡ end
  front_size = put_length (take n bits) _ refl (length-field x 0 m) ∙ ap (λ (k : ℕ). k + m) (length-take-le n bits (omega arith)) ∙ omega arith

  filled_is : put_mid n (end - n) bits part ≡ front ++ drop end bits
  filled_is =
      let e : n + m ≡ end = omega arith in
      let f : n + m - n ≡ m = omega arith in
      sym (ap (λ (k : ℕ). put_mid n k bits part) f) ∙ put_at bits part n m ∙ ap₂ (λ (ys : List ℕ) (k : ℕ). take n bits ++ (ys ++ drop k bits)) part_is e ∙ sym (append_assoc (take n bits) (field x 0 m) (drop end bits))

  pub filled_view : m ≤ count → (m < count → end ≡ 10280) → take end (put_mid n (end - n) bits part) ≡ message_with (take n bits) (field x 0 count)
  filled_view some full =
      let taken : length (take n bits) ≡ n = length-take-le n bits (omega arith) in
      ap (take end) filled_is ∙ take_at front (drop end bits) end front_size ∙ room_put (take n bits) x m count (omega arith) some (λ l. let e = full l in omega arith)

  pub filled_binary : Binary bits → Binary (put_mid n (end - n) bits part)
  filled_binary b =
      subst Binary (sym filled_is) (binary_append front (drop end bits) (binary_append (take n bits) (field x 0 m) (binary_take n bits b) (binary_field x 0 m)) (binary_drop end bits b))

  pub filled_zero : IsZeroFrom n bits → IsZeroFrom end (put_mid n (end - n) bits part)
  filled_zero z i l =
      let j : ℕ = i - end in
      let e : i ≡ length front + j = omega (arith, front_size) in
      let f : end + j ≡ i = omega arith in
      ap (λ (l : List ℕ). nth l i) filled_is ∙ ap (nth (front ++ drop end bits)) e ∙ get_or-append-add front (drop end bits) j 0 ∙ get_or-drop end bits j 0 ∙ ap (nth bits) f ∙ z i (omega arith)

pub length-words : (ps : List ℕ) → length (words ps) ≡ 64 * length ps
length-words [] = refl
length-words (p ∷ ps) = length-append (field p 0 64) (words ps) ∙ ap₂ (λ (i j : ℕ). i + j) (length-field p 0 64) (length-words ps) ∙ omega arith

-- a list by its places
pub symbols_all : (xs : List ℕ) (f : ℕ → ℕ) (n : ℕ) → length xs ≡ n → ((k : ℕ) → k < n → get_or xs k 0 ≡ f k) → xs ≡ table n f
symbols_all xs f n e h = ext_get_or 0 xs (table n f) (e ∙ sym (length-table n f)) (λ k l. let m : k < n = omega arith in h k m ∙ sym (nth-table n f k m))

-- one bit more below those that are in
abbrev pub below_bit : ℕ → ℕ → ℕ
below_bit x b = bit_or (x * 2 % 2 ^ 16) b

pub below_all : (bits : List ℕ) → Binary bits → length bits ≤ 16 → fold below_bit 0 (reverse bits) ≡ number bits
unfolding number
below_all [] b h = refl
below_all (x ∷ xs) b h =
    let k : number xs < 2 ^ length xs = subst (λ (ys : List ℕ). number ys < 2 ^ length xs) (take_all (length xs) xs (omega arith)) (number_small (length xs) xs (λ i. b (suc i))) in
    let l : 2 ^ length xs ≤ 2 ^ 15 = pow_mono {i = length xs} {j = 15} (omega arith) in
    ap (fold below_bit 0) (reverse_onto xs x []) ∙ fold-append below_bit 0 (reverse xs) (x ∷ [])
    ∙ ap (λ (y : ℕ). below_bit y x) (below_all xs (λ i. b (suc i)) (omega arith))
    ∙ or_after_shift (number xs) 2 (2 ^ 16) x refl (b 0) (omega arith) ∙ omega arith

-- an array made by a function of the index that keeps what it has
pub made_by : {F : Type 0} (g : Mut F (ℕ × Unit {0}) ℕ) (f : F) (h : ℕ → ℕ) → ((i y : ℕ) (q : F) → Called g f (i, tt) y q → (q ≡ f) × (y ≡ h i)) → (ys : List ℕ) (n : ℕ) →
    IsFromFnResult g f ys n → ys ≡ table n h
made_by g f h gives ys n made = symbols_all ys h n made.long (λ k l. rw zero-add at (each_call g f (λ i y. y ≡ h i) gives ys 0 n made.each k 0 l))
