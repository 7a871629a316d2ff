-- What the decoder says of elements, for the symbols of a word.
use Rattle.std.proofs.Common.{◌≡◌, ℕ, ◌-◌, ◌<◌, ◌≤◌, ◌⊎◌, List, map, length, get_or, sym, ap, ◌∙◌, inl, inr, ⊎_elim, arith, ext_get_or}
use Rattle.field.specs.Places.{Among, Apart}
use Rattle.field.specs.Sums.{pow, syndrome, word_value}
use Rattle.field.proofs.WordValues.{value_same, syndrome-value}
use Rattle.decoder.specs.Words.{Syndromes}
use Rattle.decoder.specs.Decoding.{Near, Proposal, NoneNear}
use Rattle.gf1024.specs.declared.element.Element.{Element}
use Rattle.gf1024.specs.Field.{group, ring, alpha, element}
use Rattle.gf1024.proofs.Powers.{laws}
use Rattle.code.specs.Code.{WellFormed, Codeword, differences, distance}
use Rattle.code.specs.Lifting.{at, symbol, Loaded, Points, Stored, ProposedWord}
use Rattle.code.specs.Division.{WordSyndromes}
use Rattle.code.proofs.Counting.{Cover, listed, covered}
use Rattle.code.proofs.Lifted.{small_is, points_are, syndromes_zero, at_map}

pub points_distinct : (xs : List Element) → length xs ≡ 544 → Points 544 xs → Apart (length xs) (at xs)
points_distinct xs size points i j a b e =
    let q = laws.distinct (543 - i) (543 - j) (omega arith) (omega arith) (sym (points i (omega arith)) ∙ e ∙ points j (omega arith)) in
    omega arith

module _ (w : List ℕ) (es xs : List Element) (formed : WellFormed w) (size : length es ≡ 544) (loaded : Loaded w 544 es) (points : Points 544 xs) where
  is : (i : ℕ) → i < 544 → at es i ≡ element (get_or w i 0)
  is i l = loaded i l

  number_is : (i : ℕ) → i < 544 → get_or w i 0 ≡ (at es i).value
  number_is i l = sym (ap (λ (x : Element). x.value) (is i l) ∙ small_is (get_or w i 0) (formed.symbols i l))

  pub syndromes_are : (s : List Element) → WordSyndromes w s → Syndromes group ring es xs (length es) 30 s
  syndromes_are s h k l =
      h k l
      ∙ sym (syndrome-value group ring laws.field (length es) (at es) (at xs) alpha k (points_are (length es) xs size points)
      ∙ value_same group ring (length es) (at es) (symbol w) (pow ring alpha k) (λ i q. is i (omega arith))
      ∙ ap (λ n. word_value group ring n (symbol w) (pow ring alpha k)) size)

  zero : (c : List ℕ) → Codeword c → (k : ℕ) → k < 30 → syndrome group ring (length es) (at xs) (at (map element c)) k ≡ group.zero
  zero c code =
      syndromes_zero (length es) c (at (map element c)) (at xs) (code.formed.size ∙ sym size) (λ i l. code.formed.symbols i (omega arith)) (λ i l. at_map c i) (points_are (length es) xs size points) code

  within : (c : List ℕ) (qs : (qs : List ℕ) × (length qs ≡ differences 544 (λ i. get_or w i 0) (λ i. get_or c i 0)) × Cover 544 (λ i. get_or w i 0) (λ i. get_or c i 0) qs) → distance w c ≤ 15 → length qs.0 ≤ 15
  unfolding distance
  within c qs near = let e = qs.1 in omega arith

  cover : (c : List ℕ) (qs : (qs : List ℕ) × (length qs ≡ differences 544 (λ i. get_or w i 0) (λ i. get_or c i 0)) × Cover 544 (λ i. get_or w i 0) (λ i. get_or c i 0) qs) → (i : ℕ) → i < length es → (at es i ≡ at (map element c) i) ⊎ Among i qs.0
  cover c qs i l = ⊎_elim (λ e. inl (is i (omega arith) ∙ ap element e ∙ sym (at_map c i))) (λ a. inr a) (qs.2 i (omega arith))

  -- a codeword near w is near it as elements
  close : (c : List ℕ) → distance w c ≤ 15 → Near group (length es) 15 es (map element c)
  unfolding distance
  close c near = let qs = listed 544 (λ i. get_or w i 0) (λ i. get_or c i 0) in (qs.0, within c qs near, cover c qs)

  -- the elements of a proposal are the symbols of v
  module _ (out : List Element) (v : List ℕ) (long : length v ≡ 544) (stored : Stored out 544 v) where
    near_word : (qs : List ℕ) → length qs ≤ 15 → ((i : ℕ) → i < length es → (at es i ≡ at out i) ⊎ Among i qs) → distance w v ≤ 15
    unfolding distance
    near_word qs len near = let h = covered 544 (λ i. get_or w i 0) (λ i. get_or v i 0) qs covers in omega arith
      where
        covers : Cover 544 (λ i. get_or w i 0) (λ i. get_or v i 0) qs
        covers i l = ⊎_elim (λ e. inl (number_is i l ∙ ap (λ (x : Element). x.value) e ∙ sym (stored i l))) (λ a. inr a) (near i (omega arith))

    pub candidate : Proposal group ring xs (length es) 15 es out → ProposedWord w v
    candidate h = record {
      formed = record { size = long; symbols = λ i l. rw (stored i l) (at out i).small };
      near = near_word h.near.0 h.near.1 h.near.2;
      only = λ c code near.
          ext_get_or 0 c v (code.formed.size ∙ sym long)
          (λ i l.
          sym (small_is (get_or c i 0) (code.formed.symbols i (let e = code.formed.size in omega arith)))
          ∙ sym (ap (λ (x : Element). x.value) (h.only (map element c) (zero c code) (close c near) i (let e = code.formed.size in omega arith) ∙ at_map c i))
          ∙ sym (stored i (let e = code.formed.size in omega arith)));
    }

  pub no_candidate : NoneNear group ring xs (length es) 15 es → (c : List ℕ) → Codeword c → distance w c ≤ 15 → ⊥
  no_candidate h c code near = h (map element c) (zero c code) (close c near)
