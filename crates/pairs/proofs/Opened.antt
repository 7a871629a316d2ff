-- The parts of a marker block, put one after another.
use Rattle.std.proofs.Common.{◌≡◌, ℕ, zero, suc, ◌+◌, ◌*◌, ◌<◌, ◌≤◌, Bool, true, false, List, [], ◌∷◌, ◌++◌, length, sym, refl, ap, ◌∙◌, ap₂, inl, inr, append_assoc, add-one, arith, length-append}
use lib.Bits.{bit_xor}
use Rattle.std.proofs.lemmas.Nat.{xor_lt}
use Rattle.bits.specs.Bits.{field, table, nth}
use Rattle.bits.proofs.Fields.{length-field}
use Rattle.bits.proofs.Tables.{table_same, table-append, nth-table}
use Rattle.lanes.specs.Pads.{pad_before, pad_bit}
use Rattle.lanes.specs.Rates.{Layout}
use Rattle.pairs.specs.Messages.{message_with, symbol_bits, marker_block_symbol, marker_block, opening, opening_size, block_size, pad_size}
use Rattle.pairs.specs.Packing.{Lanes}
use Rattle.pairs.proofs.Messaged.{put_next, with_fits}
use Rattle.pairs.proofs.Symbols.{length-symbol_bits}

-- one symbol more
pub symbol_put : (f : ℕ → ℕ) (m x : ℕ) (entry bits new : List ℕ) → x ≡ f m → bits ≡ message_with entry (symbol_bits m f) → new ≡ message_with bits (field x 0 10) →
    new ≡ message_with entry (symbol_bits (m + 1) f)
unfolding symbol_bits
symbol_put f m x entry bits new e inv h =
    put_next entry (symbol_bits m f) (field x 0 10) inv h (ap (λ (y : ℕ). symbol_bits m f ++ field y 0 10) e ∙ ap (λ (k : ℕ). symbol_bits k f) (sym (add-one m)))

-- one bit by itself
pub field_one : (y : ℕ) → y < 2 → field y 0 1 ≡ y ∷ []
unfolding field
field_one y h = ap (λ (b : ℕ). b ∷ []) (omega arith)

one_more : (n : ℕ) (f : ℕ → ℕ) → table n f ++ (f n ∷ []) ≡ table (n + 1) f
unfolding table
one_more n f = sym (table-append n 1 f ∙ ap (λ (y : ℕ). table n f ++ (y ∷ [])) (ap f (omega arith)))

-- pad bits are 0 or 1
pub binary_pad : (past : ℕ → ℕ) → ((k : ℕ) → past k < 2) → (n k : ℕ) → pad_before past n k < 2
unfolding pad_before
binary_pad past h zero k = h k
binary_pad past h (suc n) zero = xor_lt 1 (pad_before past n 4) (pad_before past n 8) (binary_pad past h n 4) (binary_pad past h n 8)
binary_pad past h (suc n) (suc k) = binary_pad past h n k

-- one pad bit more
module _ (past : ℕ → ℕ) (i : ℕ) (memory : List ℕ) (known : memory ≡ table 9 (pad_before past i)) where
  remembered : (k : ℕ) → k < 9 → nth memory k ≡ pad_before past i k
  remembered k h = ap (λ (m : List ℕ). nth m k) known ∙ nth-table 9 (pad_before past i) k h

  next_bit : pad_bit (nth memory) 0 ≡ pad_bit past i
  unfolding pad_before
  next_bit = ap₂ bit_xor (remembered 4 (omega arith)) (remembered 8 (omega arith))

  shifted : (k : ℕ) → k < 9 → pad_before (nth memory) 1 k ≡ pad_before past (suc i) k
  unfolding pad_before
  shifted zero h = next_bit
  shifted (suc k) h = remembered k (omega arith)

  pub memory_more : (new : List ℕ) → new ≡ table 9 (pad_before (nth memory) 1) → new ≡ table 9 (pad_before past (i + 1))
  memory_more new e = e ∙ table_same 9 (pad_before (nth memory) 1) (pad_before past (suc i)) shifted ∙ ap (λ (n : ℕ). table 9 (pad_before past n)) (sym (add-one i))

  pub pad_put : (entry bits new : List ℕ) (y : ℕ) → ((k : ℕ) → past k < 2) → bits ≡ message_with entry (table i (pad_bit past)) → y ≡ pad_bit (nth memory) 0 → new ≡ message_with bits (field y 0 1) →
      new ≡ message_with entry (table (i + 1) (pad_bit past))
  pad_put entry bits new y b inv e h =
      let is : y ≡ pad_bit past i = e ∙ next_bit in
      let small = binary_pad past b (suc i) 0 in
      put_next entry (table i (pad_bit past)) (field y 0 1) inv h
      (ap (λ (bs : List ℕ). table i (pad_bit past) ++ bs) (field_one y (omega arith) ∙ ap (λ (z : ℕ). z ∷ []) is) ∙ one_more i (pad_bit past))

-- markers, pad bits and status fill a marker block
pub block_filled : (lanes : ℕ) → Lanes lanes → 120 * lanes + pad_size lanes + 3 ≡ block_size lanes
block_filled lanes (inl e) = ap (λ (n : ℕ). 120 * n + pad_size n + 3) e ∙ sym (ap block_size e)
block_filled lanes (inr e) = ap (λ (n : ℕ). 120 * n + pad_size n + 3) e ∙ sym (ap block_size e)

block_small : (lanes : ℕ) → Lanes lanes → block_size lanes ≤ 10280
block_small lanes (inl e) = rw e (omega arith)
block_small lanes (inr e) = rw e (omega arith)

pub block_put : (r : Layout) (pads : List ℕ) (status : ℕ) (m0 m1 m2 m3 : List ℕ) →
    m1 ≡ message_with m0 (symbol_bits (12 * r.lanes) (marker_block_symbol r)) → m2 ≡ message_with m1 pads → m3 ≡ message_with m2 (field status 0 3) → m3 ≡ message_with m0 (marker_block r pads status)
unfolding marker_block
block_put r pads status m0 m1 m2 m3 e1 e2 e3 =
    let rows : List ℕ = symbol_bits (12 * r.lanes) (marker_block_symbol r) in
    put_next m0 (rows ++ pads) (field status 0 3) (put_next m0 rows pads e1 e2 refl) e3 (append_assoc rows pads (field status 0 3))

pub length-marker_block : (r : Layout) (pads : List ℕ) (status : ℕ) → length (marker_block r pads status) ≡ length pads + 120 * r.lanes + 3
unfolding marker_block
length-marker_block r pads status =
    length-append (symbol_bits (12 * r.lanes) (marker_block_symbol r)) (pads ++ field status 0 3)
    ∙ ap₂ (λ (i j : ℕ). i + j) (length-symbol_bits (12 * r.lanes) (marker_block_symbol r)) (length-append pads (field status 0 3) ∙ ap (λ (j : ℕ). length pads + j) (length-field status 0 3))
    ∙ omega arith

pub length-opening : (r : Layout) (opens : Bool) (pads : List ℕ) (status : ℕ) → Lanes r.lanes → length pads ≡ pad_size r.lanes → length (opening r opens pads status) ≡ opening_size r.lanes opens
unfolding opening
length-opening r true pads status w n = let a = length-marker_block r pads status in let b = block_filled r.lanes w in omega arith
length-opening r false pads status w n = refl

-- a marker block has room at the front of a message
pub block_first : (r : Layout) (pads : List ℕ) (status : ℕ) → Lanes r.lanes → length pads ≡ pad_size r.lanes → message_with [] (marker_block r pads status) ≡ marker_block r pads status
block_first r pads status w n = with_fits [] (marker_block r pads status) (let a = length-marker_block r pads status in let b = block_small r.lanes w in let c = block_filled r.lanes w in omega arith)
