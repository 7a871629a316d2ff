-- Each bit of the two words has one place on the lanes.
use Rattle.std.proofs.Common.{◌≡◌, ℕ, ◌+◌, ◌*◌, ◌/◌, ◌%◌, ◌<◌, ◌≤◌, List, Some, None, sym, refl, ap, ◌∙◌, subst, ap₂, inl, inr, arith}
use Rattle.std.proofs.lemmas.Bool.{cases_lt, lt-ltb, le-ltb}
use Rattle.bits.specs.Bits.{bit, nth}
use Rattle.lanes.specs.Rates.{pair_bits}
use Rattle.pairs.specs.Laws.{OneToOne}
use Rattle.pairs.specs.Packing.{Lanes}
use Rattle.pairs.specs.Places.{one_of, row_at, lane_at, word_at, index_at, row_count, sent_at, carried, on_lane, in_word}
use Rattle.pairs.specs.Strips.{pair_bit}
use Rattle.pairs.specs.declared.place.WordPlace.{WordPlace}
use Rattle.pairs.specs.declared.place.LanePlace.{LanePlace}

-- what a lane carries, from the word and the index that stand there
pub bit_at : (lanes : ℕ) (a b : List ℕ) (l k i w x : ℕ) → i < 10 → word_at l k ≡ w → index_at lanes l k ≡ x → pair_bit lanes a b l (10 * k + i) ≡ bit (nth (one_of w a b) x) i
unfolding pair_bit
bit_at lanes a b l k i w x h word index =
    let row : (10 * k + i) / 10 ≡ k = omega arith in
    let low : (10 * k + i) % 10 ≡ i = omega arith in
    rw (row, low, word, index) refl

-- a lane from its pair of lanes and the word on it
lane_back : (l k row pair : ℕ) → row ≡ k → pair ≡ l / 2 → 2 * pair + (row + (l + k) % 2) % 2 ≡ l
lane_back l k row pair e f = let same : (k + (l + k) % 2) % 2 ≡ l % 2 = omega arith in rw (e, f, same) (omega arith)

-- The arithmetic of places, at a number of lanes.
pub record Arithmetic (lanes : ℕ) : Type 0 where
  pub to_lane : (w x : ℕ) → w < 2 → x < 544 → lane_at lanes w x < lanes
  pub to_row : (x : ℕ) → x < 544 → row_at lanes x < row_count lanes
  pub to_word : (w x : ℕ) → w < 2 → word_at (lane_at lanes w x) (row_at lanes x) ≡ w
  pub to_index : (w x : ℕ) → w < 2 → index_at lanes (lane_at lanes w x) (row_at lanes x) ≡ x
  pub below : (l k : ℕ) → l < lanes → k < row_count lanes → index_at lanes l k < 544
  pub same_lane : (l k : ℕ) → l < lanes → lane_at lanes (word_at l k) (index_at lanes l k) ≡ l
  pub same_row : (l k : ℕ) → l < lanes → row_at lanes (index_at lanes l k) ≡ k

eight : Arithmetic 8
eight = record {
  to_lane = λ w x hw hx. omega arith;
  to_row = λ x hx. omega arith;
  to_word = λ w x hw. omega arith;
  to_index = λ w x hw. omega arith;
  below = λ l k hl hk. omega arith;
  same_lane = λ l k hl. lane_back l k ((4 * k + l / 2) / 4) ((4 * k + l / 2) % 4) (omega arith) (omega arith);
  same_row = λ l k hl. omega arith;
}

sixteen : Arithmetic 16
sixteen = record {
  to_lane = λ w x hw hx. omega arith;
  to_row = λ x hx. omega arith;
  to_word = λ w x hw. omega arith;
  to_index = λ w x hw. omega arith;
  below = λ l k hl hk. omega arith;
  same_lane = λ l k hl. lane_back l k ((8 * k + l / 2) / 8) ((8 * k + l / 2) % 8) (omega arith) (omega arith);
  same_row = λ l k hl. omega arith;
}

pub arithmetic : (lanes : ℕ) → Lanes lanes → Arithmetic lanes
arithmetic lanes (inl e) = subst Arithmetic (sym e) eight
arithmetic lanes (inr e) = subst Arithmetic (sym e) sixteen

module _ (lanes : ℕ) where
  -- what the two calls answer
  pub on_lane_inside : (p : WordPlace) → p.word < 2 → p.index < 544 → on_lane lanes p ≡ Some (sent_at lanes p)
  unfolding on_lane
  on_lane_inside p h k = rw (lt-ltb p.word 2 h, lt-ltb p.index 544 k) refl

  pub no_word : (p : WordPlace) → 2 ≤ p.word → on_lane lanes p ≡ None
  unfolding on_lane
  no_word p h = rw (le-ltb p.word 2 h) refl

  pub no_index : (p : WordPlace) → p.word < 2 → 544 ≤ p.index → on_lane lanes p ≡ None
  unfolding on_lane
  no_index p h k = rw (lt-ltb p.word 2 h, le-ltb p.index 544 k) refl

  pub in_word_inside : (q : LanePlace) → q.lane < lanes → q.row < row_count lanes → in_word lanes q ≡ Some (carried lanes q)
  unfolding in_word
  in_word_inside q h k = rw (lt-ltb q.lane lanes h, lt-ltb q.row (row_count lanes) k) refl

  pub no_lane : (q : LanePlace) → lanes ≤ q.lane → in_word lanes q ≡ None
  unfolding in_word
  no_lane q h = rw (le-ltb q.lane lanes h) refl

  pub no_row : (q : LanePlace) → q.lane < lanes → row_count lanes ≤ q.row → in_word lanes q ≡ None
  unfolding in_word
  no_row q h k = rw (lt-ltb q.lane lanes h, le-ltb q.row (row_count lanes) k) refl

  module _ (a : Arithmetic lanes) where
    there : (p : WordPlace) (q : LanePlace) → on_lane lanes p ≡ Some q → in_word lanes q ≡ Some p
    there p q e = elim (cases_lt p.word 2) [
      | inl h ↦ elim (cases_lt p.index 544) [
        | inl k ↦
            let f : Some (sent_at lanes p) ≡ Some q = sym (on_lane_inside p h k) ∙ e in
            let same : sent_at lanes p ≡ q = cc in
            let P : LanePlace → Type 0 = λ z. in_word lanes z ≡ Some p in
            subst P same (in_word_inside (sent_at lanes p) (a.to_lane p.word p.index h k) (a.to_row p.index k) ∙ ap Some (ap₂ (λ (w x : ℕ). record { word = w; index = x }) (a.to_word p.word p.index h) (a.to_index p.word p.index h)))
        | inr k ↦ let f : None ≡ Some q = sym (no_index p h k) ∙ e in let z : ◌≡◌ {A = ℕ} 0 1 = cc in absurd (omega arith)
      ]
      | inr h ↦ let f : None ≡ Some q = sym (no_word p h) ∙ e in let z : ◌≡◌ {A = ℕ} 0 1 = cc in absurd (omega arith)
    ]

    back : (q : LanePlace) (p : WordPlace) → in_word lanes q ≡ Some p → on_lane lanes p ≡ Some q
    back q p e = elim (cases_lt q.lane lanes) [
      | inl h ↦ elim (cases_lt q.row (row_count lanes)) [
        | inl k ↦
            let f : Some (carried lanes q) ≡ Some p = sym (in_word_inside q h k) ∙ e in
            let same : carried lanes q ≡ p = cc in
            let P : WordPlace → Type 0 = λ z. on_lane lanes z ≡ Some q in
            subst P same (on_lane_inside (carried lanes q) (omega arith) (a.below q.lane q.row h k) ∙ ap Some (ap₂ (λ (l i : ℕ). record { lane = l; row = i }) (a.same_lane q.lane q.row h) (a.same_row q.lane q.row h)))
        | inr k ↦ let f : None ≡ Some p = sym (no_row q h k) ∙ e in let z : ◌≡◌ {A = ℕ} 0 1 = cc in absurd (omega arith)
      ]
      | inr h ↦ let f : None ≡ Some p = sym (no_lane q h) ∙ e in let z : ◌≡◌ {A = ℕ} 0 1 = cc in absurd (omega arith)
    ]

    stands : (p : WordPlace) (q : LanePlace) → on_lane lanes p ≡ Some q → (u v : List ℕ) (i : ℕ) → i < 10 → pair_bit lanes u v q.lane (10 * q.row + i) ≡ bit (nth (one_of p.word u v) p.index) i
    stands p q e u v i h =
        elim (cases_lt q.lane lanes) [
          | inl l ↦ elim (cases_lt q.row (row_count lanes)) [
            | inl k ↦
                let f : Some (carried lanes q) ≡ Some p = sym (in_word_inside q l k) ∙ there p q e in
                let same : carried lanes q ≡ p = cc in
                bit_at lanes u v q.lane q.row i p.word p.index h (ap (λ (z : WordPlace). z.word) same) (ap (λ (z : WordPlace). z.index) same)
            | inr k ↦ let f : None ≡ Some p = sym (no_row q l k) ∙ there p q e in let z : ◌≡◌ {A = ℕ} 0 1 = cc in absurd (omega arith)
          ]
          | inr l ↦ let f : None ≡ Some p = sym (no_lane q l) ∙ there p q e in let z : ◌≡◌ {A = ℕ} 0 1 = cc in absurd (omega arith)
        ]

pub bits_of_rows : (lanes : ℕ) → Lanes lanes → pair_bits lanes ≡ 10 * row_count lanes
bits_of_rows lanes (inl e) = ap (λ (x : ℕ). 10880 / x) e ∙ sym (ap (λ (x : ℕ). 10 * (1088 / x)) e)
bits_of_rows lanes (inr e) = ap (λ (x : ℕ). 10880 / x) e ∙ sym (ap (λ (x : ℕ). 10 * (1088 / x)) e)

pub one_to_one : (lanes : ℕ) → Lanes lanes → OneToOne lanes
one_to_one lanes wide = let a = arithmetic lanes wide in record { there = there lanes a; back = back lanes a; stands = stands lanes a; rows = bits_of_rows lanes wide }
