-- The symbols of a marker out of its number.
use Rattle.std.proofs.Common.{◌≡◌, ℕ, suc, ◌+◌, ◌-◌, ◌*◌, ◌/◌, ◌%◌, ◌^◌, ◌<◌, ◌≤◌, List, [], ◌∷◌, ◌++◌, length, take, drop, replicate, sym, refl, ap, ◌∙◌, ap₂, arith}
use Rattle.std.proofs.lemmas.List.{drop_all}
use Rattle.std.proofs.lemmas.Grind.{common_steps}
use Rattle.bits.specs.Bits.{field, number, octet_bits, table, nth}
use Rattle.bits.proofs.Fields.{length-field, field_join, take-field, drop-field, number-field}
use Rattle.bits.proofs.Tables.{length-table, nth-table}
use Rattle.lanes.specs.Markers.{symbol_in, marker_at, marker_bits, octets_number}
use Rattle.lanes.specs.Rates.{Layout}
use Rattle.lanes.specs.Lawful.{Form, Lawful}

-- the bits of octets are those of their number
pub octets-field : (os : List ℕ) → ((i : ℕ) → nth os i < 256) → octet_bits os ≡ field (octets_number (nth os) (length os)) 0 (8 * length os)
unfolding octet_bits octets_number field
octets-field [] h = refl
octets-field (x ∷ os) h =
    let y : ℕ = octets_number (nth os) (length os) in
    let e : x + 256 * y ≡ y * 2 ^ 8 + x = omega arith in
    let n : 8 * suc (length os) ≡ 8 + 8 * length os = omega arith in
    ap (λ (bs : List ℕ). field x 0 8 ++ bs) (octets-field os (λ i. h (suc i)))
    ∙ sym (ap₂ (λ (z k : ℕ). field z 0 k) e n ∙ field_join y 8 x (8 * length os) (h 0))

pub symbol_of_field : (x n i : ℕ) → 10 * i + 10 ≤ n → symbol_in (field x 0 n) i ≡ x / 2 ^ (10 * i) % 1024
unfolding symbol_in
symbol_of_field x n i l =
    let rest : ℕ = n - (10 * i + 10) in
    let e : n ≡ 10 * i + (10 + rest) = omega arith in
    ap (λ (k : ℕ). number (take 10 (drop (10 * i) (field x 0 k)))) e
    ∙ ap (λ (bs : List ℕ). number (take 10 bs)) (drop-field x 0 (10 * i) (10 + rest))
    ∙ ap number (take-field x (0 + 10 * i) 10 rest)
    ∙ number-field x (0 + 10 * i) 10
    ∙ ap (λ (k : ℕ). x / 2 ^ k % 1024) (omega arith)

pub symbol_past : (bs : List ℕ) (i : ℕ) → length bs ≤ 10 * i → symbol_in bs i ≡ 0
unfolding symbol_in number
symbol_past bs i l = ap (λ (xs : List ℕ). number (take 10 xs)) (drop_all (10 * i) bs l)

-- the octets of every lane's marker, and the zeros past the lanes
module _ (r : Layout) (form : (l : ℕ) → l < r.lanes → Form (r.octet l)) where
  pub length_marker : (l : ℕ) → length (marker_at r l) ≡ 15
  unfolding marker_at
  length_marker l = grind (arith, common_steps, length-table)

  octet_small : (l i : ℕ) → l < r.lanes → nth (table 15 (r.octet l)) i < 256
  octet_small l i h = let f = form l h in grind (arith, common_steps, length-table, nth-table, f.octets)

  zero-small : (n i : ℕ) → nth (replicate n 0) i < 256
  zero-small n i = grind (arith, common_steps)

  marker_small : (l i : ℕ) → nth (marker_at r l) i < 256
  unfolding marker_at
  marker_small l i = grind (arith, common_steps, octet_small, zero-small)

  pub marker_field : (l : ℕ) → marker_bits r l ≡ field (octets_number (nth (marker_at r l)) 15) 0 120
  unfolding marker_bits
  marker_field l =
      octets-field (marker_at r l) (marker_small l)
      ∙ ap (λ (n : ℕ). field (octets_number (nth (marker_at r l)) n) 0 (8 * n)) (length_marker l)

  pub length_bits : (l : ℕ) → length (marker_bits r l) ≡ 120
  length_bits l = ap length (marker_field l) ∙ length-field (octets_number (nth (marker_at r l)) 15) 0 120

module _ {r : Layout} (lawful : Lawful r) where
  pub symbol_here : (l row : ℕ) → row < 12 → symbol_in (marker_bits r l) row ≡ octets_number (nth (marker_at r l)) 15 / 2 ^ (10 * row) % 1024
  symbol_here l row h = ap (λ (bs : List ℕ). symbol_in bs row) (marker_field r lawful.form l) ∙ symbol_of_field _ 120 row (omega arith)

  pub symbol_beyond : (l row : ℕ) → 12 ≤ row → symbol_in (marker_bits r l) row ≡ 0
  symbol_beyond l row h = let n = length_bits r lawful.form l in symbol_past _ _ (omega arith)
