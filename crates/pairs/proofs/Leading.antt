-- A pair that opens a marker period leads with the markers.
use Rattle.std.proofs.Common.{◌≡◌, ℕ, zero, suc, ◌+◌, ◌-◌, ◌*◌, ◌/◌, ◌%◌, ◌^◌, ◌<◌, true, eqb, List, ◌++◌, length, take, sym, refl, ap, ◌∙◌, subst, ap₂, inl, inr, append_assoc, le_of_suc-le-suc, eq-or-lt_of_le, arith}
use Rattle.std.proofs.lemmas.Nat.{shr-shr}
use Rattle.std.proofs.lemmas.List.{take_at, drop_at}
use Rattle.std.proofs.lemmas.Bool.{cond_both, eqb-true, eqb-false}
use Rattle.bits.specs.Bits.{Binary, bit, field, number, table, nth}
use Rattle.bits.proofs.Fields.{length-field, bit-mod, number-whole}
use Rattle.bits.proofs.Tables.{table_same, field-table}
use Rattle.bits.proofs.Binary.{binary_field}
use Rattle.lanes.specs.Markers.{symbol_in, marker_at, marker_bits, octets_number}
use Rattle.lanes.specs.Rates.{Layout}
use Rattle.lanes.specs.Lawful.{Lawful}
use Rattle.lanes.proofs.MarkerSymbols.{symbol_of_field, marker_field}
use Rattle.pairs.specs.Messages.{symbol_bits, partner, marker_lane, marker_block_symbol, marker_block, opening, message, word}
use Rattle.pairs.specs.Strips.{lane_symbol, pair_bit}
use Rattle.pairs.specs.Packing.{Lanes}
use Rattle.pairs.specs.Laws.{MarkersLead}
use Rattle.pairs.specs.Places.{word_at, index_at}
use Rattle.pairs.proofs.Coded.{one_word, word-nth}
use Rattle.pairs.proofs.Symbols.{length-symbol_bits, symbol_in-small}

-- symbols out of bits

-- the symbol behind n others
symbol-behind : (n x : ℕ) (front rest : List ℕ) → length front ≡ 10 * n → x < 1024 → symbol_in (front ++ (field x 0 10 ++ rest)) n ≡ x
unfolding symbol_in
symbol-behind n x front rest e h =
    ap (λ (bs : List ℕ). number (take 10 bs)) (drop_at front (field x 0 10 ++ rest) (10 * n) e)
    ∙ ap number (take_at (field x 0 10) rest 10 (length-field x 0 10))
    ∙ number-whole x 10 h

pub symbol_of_bits : (n : ℕ) (f : ℕ → ℕ) (rest : List ℕ) (m : ℕ) → m < n → f m < 1024 → symbol_in (symbol_bits n f ++ rest) m ≡ f m
unfolding symbol_bits
symbol_of_bits zero f rest m l h = absurd (omega arith)
symbol_of_bits (suc n) f rest m l h =
    ap (λ (bs : List ℕ). symbol_in bs m) (append_assoc (symbol_bits n f) (field (f n) 0 10) rest)
    ∙ elim (eq-or-lt_of_le (le_of_suc-le-suc l)) [
      | inl e ↦ rw e (symbol-behind n (f n) (symbol_bits n f) rest (length-symbol_bits n f) (rw e at h))
      | inr k ↦ symbol_of_bits n f (field (f n) 0 10 ++ rest) m k h
    ]

-- bit n of a number out of its symbols
pub bit_of_symbol : (x n size : ℕ) → n < size → size % 10 ≡ 0 → bit (symbol_in (field x 0 size) (n / 10)) (n % 10) ≡ bit x n
bit_of_symbol x n size l e =
    let k : ℕ = 10 * (n / 10) in
    ap (λ (y : ℕ). bit y (n % 10)) (symbol_of_field x size (n / 10) (omega arith))
    ∙ bit-mod (x / 2 ^ k) 10 (n % 10) (omega arith)
    ∙ ap (λ (y : ℕ). y % 2) (shr-shr x k (n % 10))
    ∙ ap (bit x) (omega arith)

-- the place in the message of what lane l carries in row k
abbrev pub symbol_at : ℕ → ℕ → ℕ → ℕ
symbol_at lanes l k = 2 * index_at lanes l k + word_at l k

pub lane_symbol_is : (lanes : ℕ) (bits : List ℕ) (l k : ℕ) → index_at lanes l k < 514 → lane_symbol lanes (word bits 0) (word bits 1) l k ≡ symbol_in bits (symbol_at lanes l k)
lane_symbol_is lanes bits l k h =
    let x : ℕ = index_at lanes l k in
    ap (λ (a : List ℕ). nth a x) (one_word bits (word_at l k) (omega arith)) ∙ word-nth bits (word_at l k) x h

-- markers

-- the lane whose marker has its symbol at place c of row k
own_lane : (l k c : ℕ) → c ≡ 2 * (l / 2) + (l + k) % 2 → marker_lane k c ≡ l
own_lane l k c e =
    cond_both (eqb (k % 2) 0) c (partner c) (λ (y : ℕ). y ≡ l)
    (λ t. let z : k % 2 ≡ 0 = eqb-true (k % 2) 0 t in omega arith)
    (λ t. let ne : k % 2 ≡ 0 → ⊥ = eqb-false (k % 2) 0 t in
    cond_both (eqb (c % 2) 0) (c + 1) (c - 1) (λ (y : ℕ). y ≡ l)
    (λ u. let z : c % 2 ≡ 0 = eqb-true (c % 2) 0 u in omega arith)
    (λ u. let nz : c % 2 ≡ 0 → ⊥ = eqb-false (c % 2) 0 u in omega arith))

marker_place : (lanes l k : ℕ) → Lanes lanes → l < lanes → k < 12 →
    (index_at lanes l k < 514) × (symbol_at lanes l k < 12 * lanes) × (symbol_at lanes l k / lanes ≡ k) × (symbol_at lanes l k % lanes ≡ 2 * (l / 2) + (l + k) % 2)
marker_place lanes l k (inl e) h m = rw e (omega arith, omega arith, omega arith, omega arith)
marker_place lanes l k (inr e) h m = rw e (omega arith, omega arith, omega arith, omega arith)

module _ (r : Layout) (lawful : Lawful r) where
  pub marker_binary : (l : ℕ) → Binary (marker_bits r l)
  marker_binary l = subst Binary (sym (marker_field r lawful.form l)) (binary_field (octets_number (nth (marker_at r l)) 15) 0 120)

  pub block-symbol_in-small : (m : ℕ) → marker_block_symbol r m < 1024
  unfolding marker_block_symbol
  block-symbol_in-small m = let l : ℕ = marker_lane (m / r.lanes) (m % r.lanes) in symbol_in-small (marker_bits r l) (m / r.lanes) (marker_binary l)

  -- a message that opens a marker period begins with the symbols of the marker block
  pub message_symbol : (pads scrambled : List ℕ) (status m : ℕ) → m < 12 * r.lanes → symbol_in (message r true pads status scrambled) m ≡ marker_block_symbol r m
  unfolding message opening marker_block
  message_symbol pads scrambled status m h =
      let f : ℕ → ℕ = marker_block_symbol r in
      let rest : List ℕ = pads ++ field status 0 3 in
      ap (λ (bs : List ℕ). symbol_in bs m) (append_assoc (symbol_bits (12 * r.lanes) f) rest scrambled)
      ∙ symbol_of_bits (12 * r.lanes) f (rest ++ scrambled) m h (block-symbol_in-small m)

  module _ (bits : List ℕ) (begins : (m : ℕ) → m < 12 * r.lanes → symbol_in bits m ≡ marker_block_symbol r m) (l : ℕ) (inside : l < r.lanes) where
    -- row k of a lane has symbol k of its marker
    marker_symbol : (k : ℕ) → k < 12 → lane_symbol r.lanes (word bits 0) (word bits 1) l k ≡ symbol_in (marker_bits r l) k
    unfolding marker_block_symbol
    marker_symbol k h =
        let p = marker_place r.lanes l k lawful.width inside h in
        lane_symbol_is r.lanes bits l k p.0
        ∙ begins (symbol_at r.lanes l k) p.1
        ∙ ap₂ (λ (i j : ℕ). symbol_in (marker_bits r (marker_lane i j)) i) p.2 p.3
        ∙ ap (λ (j : ℕ). symbol_in (marker_bits r j) k) (own_lane l k (2 * (l / 2) + (l + k) % 2) refl)

    leads : table 120 (pair_bit r.lanes (word bits 0) (word bits 1) l) ≡ marker_bits r l
    unfolding pair_bit
    leads =
        let x : ℕ = octets_number (nth (marker_at r l)) 15 in
        let e : marker_bits r l ≡ field x 0 120 = marker_field r lawful.form l in
        table_same 120 _ (λ n. bit x (0 + n)) (λ n h.
        ap (λ (y : ℕ). bit y (n % 10)) (marker_symbol (n / 10) (omega arith) ∙ ap (λ (bs : List ℕ). symbol_in bs (n / 10)) e)
        ∙ bit_of_symbol x n 120 h refl ∙ ap (bit x) (omega arith))
        ∙ sym (e ∙ field-table x 0 120)

pub markers_lead : (r : Layout) → Lawful r → MarkersLead r
markers_lead r lawful pads scrambled status =
    leads r lawful (message r true pads status scrambled) (message_symbol r lawful pads scrambled status)
