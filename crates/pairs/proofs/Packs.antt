-- Symbols, bits and octets of a lane.
use Rattle.std.proofs.Common.{◌≡◌, ℕ, zero, suc, ◌+◌, ◌-◌, ◌*◌, ◌/◌, ◌%◌, ◌^◌, ◌<◌, ◌≤◌, List, ◌++◌, bit_or, fold, length, reverse, take, drop, sym, refl, ap, ◌∙◌, ap₂, inl, inr, append_assoc, suc-mul, zero-mul, add-one, arith, length-append}
use borrow.Rule.Slice.PartMut.{put_mid}
use Rattle.std.proofs.lemmas.Grind.{or_after_shift}
use Rattle.std.proofs.lemmas.List.{take_at, take_all, length-take-le}
use Rattle.bits.specs.Bits.{bit, field, octets, table, nth}
use Rattle.bits.proofs.Fields.{field_join, field-append, length-field}
use Rattle.bits.proofs.Tables.{table_same, table-append, field-table, length-table}
use Rattle.bits.proofs.Octets.{octets-append, length-octets, put_at, put_more}
use Rattle.pairs.specs.Strips.{lane_symbol, pair_bit, lane_octets, strip_octets}
use Rattle.pairs.specs.Packing.{four_symbols, quad_bits, Small, Lanes}
use Rattle.pairs.proofs.Messaged.{symbols_all}

-- one symbol more below those that are in
abbrev pub below : ℕ → ℕ → ℕ
below x s = bit_or (x * 1024 % 2 ^ 64) s

pub packs : (symbols : List ℕ) → length symbols ≡ 4 → Small symbols →
    field (fold below 0 (reverse symbols)) 0 40 ≡ four_symbols (nth symbols 0) (nth symbols 1) (nth symbols 2) (nth symbols 3)
unfolding table
packs symbols n h =
    let at : ℕ → ℕ = nth symbols in
    let n3 : ℕ = at 3 in
    let n2 : ℕ = n3 * 2 ^ 10 + at 2 in
    let n1 : ℕ = n2 * 2 ^ 10 + at 1 in
    let put : (x i y : ℕ) → x < 2 ^ 30 → y ≡ x → below y (at i) ≡ x * 2 ^ 10 + at i = λ x i y l e. ap (λ (z : ℕ). below z (at i)) e ∙ or_after_shift x 1024 (2 ^ 64) (at i) refl (h i) (omega arith) in
    let b0 = h 0 in
    let b1 = h 1 in
    let b2 = h 2 in
    let b3 = h 3 in
    let all : fold below 0 (reverse symbols) ≡ n1 * 2 ^ 10 + at 0 =
    ap (λ (xs : List ℕ). fold below 0 (reverse xs)) (symbols_all symbols at 4 n (λ k l. refl))
    ∙ put n1 0 _ (omega arith) (put n2 1 _ (omega arith) (put n3 2 _ (omega arith) (put 0 3 0 (omega arith) refl ∙ omega arith))) in
    ap (λ (x : ℕ). field x 0 40) all
    ∙ field_join n1 10 (at 0) 30 b0 ∙ ap (λ (l : List ℕ). field (at 0) 0 10 ++ l) (
    field_join n2 10 (at 1) 20 b1 ∙ ap (λ (l : List ℕ). field (at 1) 0 10 ++ l) (
    field_join n3 10 (at 2) 10 b2))

-- ten bits of a lane from a symbol's first on
ten : (lanes : ℕ) (a b : List ℕ) (l k n : ℕ) → n ≡ 10 * k → table 10 (λ i. pair_bit lanes a b l (n + i)) ≡ field (lane_symbol lanes a b l k) 0 10
unfolding pair_bit
ten lanes a b l k n e =
    table_same 10 (λ i. pair_bit lanes a b l (n + i)) (λ i. bit (lane_symbol lanes a b l k) (0 + i)) (λ i h.
    let p : (n + i) / 10 ≡ k = omega arith in
    let q : (n + i) % 10 ≡ 0 + i = omega arith in
    ap₂ (λ (x y : ℕ). bit (lane_symbol lanes a b l x) y) p q)
    ∙ sym (field-table (lane_symbol lanes a b l k) 0 10)

-- four rows' symbols packed are the forty bits
pub quad_is : (lanes : ℕ) (a b : List ℕ) (l q : ℕ) (s : List ℕ) → s ≡ table 4 (λ i. lane_symbol lanes a b l (4 * q + i)) →
    four_symbols (nth s 0) (nth s 1) (nth s 2) (nth s 3) ≡ quad_bits lanes a b l q
unfolding quad_bits table
quad_is lanes a b l q s made =
    let f : ℕ → ℕ = λ i. pair_bit lanes a b l (40 * q + i) in
    let at : (m : ℕ) (i : ℕ) → f (m + i) ≡ pair_bit lanes a b l (40 * q + m + i) = λ m i. ap (pair_bit lanes a b l) (omega arith) in
    let F : ℕ → List ℕ = λ k. field (lane_symbol lanes a b l k) 0 10 in
    let part : (m k : ℕ) → 40 * q + m ≡ 10 * k → table 10 (λ i. f (m + i)) ≡ F k = λ m k e. table_same 10 (λ i. f (m + i)) (λ i. pair_bit lanes a b l (40 * q + m + i)) (λ i h. at m i) ∙ ten lanes a b l k (40 * q + m) e in
    let p0 : table 10 f ≡ F (4 * q + 0) = table_same 10 f (λ i. f (0 + i)) (λ i h. ap f (omega arith)) ∙ part 0 (4 * q + 0) (omega arith) in
    let p1 : table 10 (λ i. f (10 + i)) ≡ F (4 * q + 1) = part 10 (4 * q + 1) (omega arith) in
    let p2 : table 10 (λ i. f (20 + i)) ≡ F (4 * q + 2) = part 20 (4 * q + 2) (omega arith) in
    let p3 : table 10 (λ i. f (30 + i)) ≡ F (4 * q + 3) = part 30 (4 * q + 3) (omega arith) in
    let t3 : table 20 (λ i. f (20 + i)) ≡ F (4 * q + 2) ++ F (4 * q + 3) =
    table-append 10 10 (λ i. f (20 + i)) ∙ ap₂ (λ (x y : List ℕ). x ++ y) p2 (table_same 10 (λ i. f (20 + (10 + i))) (λ i. f (30 + i)) (λ i h. ap f (omega arith)) ∙ p3) in
    let t2 : table 30 (λ i. f (10 + i)) ≡ F (4 * q + 1) ++ (F (4 * q + 2) ++ F (4 * q + 3)) =
    table-append 10 20 (λ i. f (10 + i)) ∙ ap₂ (λ (x y : List ℕ). x ++ y) p1 (table_same 20 (λ i. f (10 + (10 + i))) (λ i. f (20 + i)) (λ i h. ap f (omega arith)) ∙ t3) in
    ap (λ (s : List ℕ). four_symbols (nth s 0) (nth s 1) (nth s 2) (nth s 3)) made ∙ sym (table-append 10 30 f ∙ ap₂ (λ (x y : List ℕ). x ++ y) p0 t2)

-- five octets of forty bits
pub five_octets : (x : ℕ) (bytes : List ℕ) → bytes ≡ octets 8 (field x 0 64) → take 5 bytes ≡ octets 5 (field x 0 40)
five_octets x bytes e =
    ap (take 5) (e ∙ ap (octets 8) (field-append x 0 40 24) ∙ octets-append 5 3 (field x 0 40) (field x 40 24) (length-field x 0 40))
    ∙ take_at (octets 5 (field x 0 40)) (octets 3 (field x 40 24)) 5 (length-octets 5 (field x 0 40))

five_rows : (lanes q : ℕ) → Lanes lanes → q ≡ 1360 / lanes / 5 → 5 * q ≡ 1360 / lanes
five_rows lanes q (inl e) h = let n : 1360 / lanes ≡ 170 = ap (λ (x : ℕ). 1360 / x) e in rw n (omega arith)
five_rows lanes q (inr e) h = let n : 1360 / lanes ≡ 85 = ap (λ (x : ℕ). 1360 / x) e in rw n (omega arith)

pub quad_inside : (lanes q n : ℕ) → Lanes lanes → n ≡ 1360 / lanes → q < n / 5 → 4 * q + 3 < 1088 / lanes
quad_inside lanes q n (inl e) h l = let k : 1360 / lanes ≡ 170 = ap (λ (x : ℕ). 1360 / x) e in let m : 1088 / lanes ≡ 136 = ap (λ (x : ℕ). 1088 / x) e in rw m (omega arith)
quad_inside lanes q n (inr e) h l = let k : 1360 / lanes ≡ 85 = ap (λ (x : ℕ). 1360 / x) e in let m : 1088 / lanes ≡ 68 = ap (λ (x : ℕ). 1088 / x) e in rw m (omega arith)

module _ (lanes : ℕ) (a b : List ℕ) (l : ℕ) where
  -- forty bits more of a lane are five octets more
  lane_more : (q : ℕ) → octets (5 * (q + 1)) (table (40 * (q + 1)) (pair_bit lanes a b l)) ≡ octets (5 * q) (table (40 * q) (pair_bit lanes a b l)) ++ octets 5 (quad_bits lanes a b l q)
  unfolding quad_bits
  lane_more q =
      let f : ℕ → ℕ = pair_bit lanes a b l in
      let n : 40 * (q + 1) ≡ 40 * q + 40 = omega arith in
      let m : 5 * (q + 1) ≡ 5 * q + 5 = omega arith in
      let z : length (table (40 * q) f) ≡ 8 * (5 * q) = length-table (40 * q) f ∙ omega arith in
      ap₂ (λ (i j : ℕ). octets i (table j f)) m n ∙ ap (octets (5 * q + 5)) (table-append (40 * q) 40 f) ∙ octets-append (5 * q) 5 (table (40 * q) f) (table 40 (λ i. f (40 * q + i))) z

  pub lane_step : (q x : ℕ) (part bytes new : List ℕ) → 5 * q + 5 ≤ length part → take (5 * q) part ≡ octets (5 * q) (table (40 * q) (pair_bit lanes a b l)) →
      field x 0 40 ≡ quad_bits lanes a b l q → bytes ≡ octets 8 (field x 0 64) → new ≡ take (5 * q) part ++ (take 5 bytes ++ drop (5 * q + 5) part) →
      take (5 * (q + 1)) new ≡ octets (5 * (q + 1)) (table (40 * (q + 1)) (pair_bit lanes a b l))
  lane_step q x part bytes new room inv e f g =
      let m : 5 * (q + 1) ≡ 5 * q + 5 = omega arith in
      let h : take 5 bytes ≡ octets 5 (quad_bits lanes a b l q) = five_octets x bytes f ∙ ap (octets 5) e in
      let front : List ℕ = take (5 * q) part ++ take 5 bytes in
      let n : length front ≡ 5 * q + 5 =
      length-append (take (5 * q) part) (take 5 bytes)
      ∙ ap₂ (λ (i j : ℕ). i + j) (length-take-le (5 * q) part (omega arith)) (ap length h ∙ length-octets 5 (quad_bits lanes a b l q)) in
      ap₂ take m (g ∙ sym (append_assoc (take (5 * q) part) (take 5 bytes) (drop (5 * q + 5) part))) ∙ take_at front (drop (5 * q + 5) part) (5 * q + 5) n
      ∙ ap₂ (λ (u v : List ℕ). u ++ v) inv h ∙ sym (lane_more q)

  pub lane_done : (q : ℕ) (part : List ℕ) → Lanes lanes → length part ≡ 1360 / lanes → q ≡ length part / 5 → take (5 * q) part ≡ octets (5 * q) (table (40 * q) (pair_bit lanes a b l)) → part ≡ lane_octets lanes a b l
  unfolding lane_octets
  lane_done q part w n e inv =
      let s : 5 * q ≡ 1360 / lanes = five_rows lanes q w (omega arith) in
      let t : 40 * q ≡ 8 * (1360 / lanes) = omega arith in
      sym (take_all (5 * q) part (omega arith)) ∙ inv ∙ ap₂ (λ (i j : ℕ). octets i (table j (pair_bit lanes a b l))) s t

-- the lanes' parts in the strip
pub parts_whole : (lanes : ℕ) → Lanes lanes → lanes * (1360 / lanes) ≡ 1360
parts_whole lanes (inl e) = ap (λ (x : ℕ). x * (1360 / x)) e
parts_whole lanes (inr e) = ap (λ (x : ℕ). x * (1360 / x)) e

pub length_strip : (lanes : ℕ) (a b : List ℕ) (n : ℕ) → length (strip_octets lanes a b n) ≡ n * (1360 / lanes)
unfolding strip_octets lane_octets
length_strip lanes a b zero = sym (zero-mul (1360 / lanes))
length_strip lanes a b (suc n) =
    length-append (strip_octets lanes a b n) (lane_octets lanes a b n)
    ∙ ap₂ (λ (i j : ℕ). i + j) (length_strip lanes a b n) (length-octets (1360 / lanes) (table (8 * (1360 / lanes)) (pair_bit lanes a b n)))
    ∙ sym (suc-mul n (1360 / lanes))

pub strip_step : (lanes : ℕ) (a b : List ℕ) (l : ℕ) (entry strip part : List ℕ) → part ≡ lane_octets lanes a b l → strip ≡ strip_octets lanes a b l ++ drop (l * (1360 / lanes)) entry →
    put_mid (l * (1360 / lanes)) (l * (1360 / lanes) + 1360 / lanes - l * (1360 / lanes)) strip part ≡ strip_octets lanes a b (l + 1) ++ drop ((l + 1) * (1360 / lanes)) entry
unfolding strip_octets
strip_step lanes a b l entry strip part e inv =
    let size : ℕ = 1360 / lanes in
    let n : ℕ = l * size in
    let m : n + size ≡ (l + 1) * size = sym (ap (λ (x : ℕ). x * size) (add-one l) ∙ suc-mul l size) in
    put_more size (strip_octets lanes a b l) (lane_octets lanes a b l) entry strip (put_mid n (n + size - n) strip part) n (length_strip lanes a b l) inv
    (put_at strip part n size ∙ ap (λ (o : List ℕ). take n strip ++ (o ++ drop (n + size) strip)) e)
    ∙ ap₂ (λ (k : ℕ) (j : ℕ). strip_octets lanes a b k ++ drop j entry) (sym (add-one l)) m
