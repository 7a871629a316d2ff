-- The nibbles of a number made of octets.
use Rattle.std.proofs.Common.{◌≡◌, ℕ, zero, suc, ◌+◌, ◌*◌, ◌/◌, ◌%◌, ◌<◌, true, List, [], ◌∷◌, sym, refl, ap, ◌∙◌, arith, rules}
use Rattle.std.proofs.lemmas.Nat.{shr-shr}
use Rattle.std.proofs.lemmas.Bool.{lt-ltb, le-leb, eq-eqb}
use Rattle.bits.specs.Bits.{table, nth}
use Rattle.bits.proofs.Tables.{nth-table}
use Rattle.lanes.specs.Markers.{marker_at, octets_number, nibble, nibble_of, wrong, shared, own, near}
use Rattle.lanes.specs.Rates.{Layout}
use Rattle.lanes.specs.Lawful.{Form}

two_further : (x j : ℕ) → nibble x (suc (suc j)) ≡ nibble (x / 256) j
two_further x j = grind (arith, shr-shr x 8 (4 * j))

nibble_further : (f : ℕ → ℕ) (j : ℕ) → nibble_of f (suc (suc j)) ≡ nibble_of (λ i. f (suc i)) j
nibble_further f j =
    let e : suc (suc j) / 2 ≡ suc (j / 2) = omega arith in
    let d : suc (suc j) % 2 ≡ j % 2 = omega arith in
    rw (e, d) refl

pub nibble-number : (n : ℕ) (f : ℕ → ℕ) → ((i : ℕ) → i < n → f i < 256) → (j : ℕ) → j < 2 * n → nibble (octets_number f n) j ≡ nibble_of f j
unfolding octets_number
nibble-number zero f h j l = absurd (omega arith)
nibble-number (suc n) f h zero l =
    let b : f 0 < 256 = h 0 (omega arith) in
    omega arith
nibble-number (suc n) f h (suc zero) l =
    let b : f 0 < 256 = h 0 (omega arith) in
    omega arith
nibble-number (suc n) f h (suc (suc j)) l =
    let b : f 0 < 256 = h 0 (omega arith) in
    let x : ℕ = octets_number (λ i. f (suc i)) n in
    let e : (f 0 + 256 * x) / 256 ≡ x = omega arith in
    two_further (f 0 + 256 * x) j ∙ ap (λ (y : ℕ). nibble y j) e
    ∙ nibble-number n (λ i. f (suc i)) (λ i k. h (suc i) (omega arith)) j (omega arith) ∙ sym (nibble_further f j)

-- octets of a list that stand in a marker
abbrev pub Inside : List ℕ → Type 0
Inside [] = Unit {0}
Inside (o ∷ os) = (o < 15) × Inside os

wrong-same : (v w x : ℕ → ℕ) → ((j : ℕ) → j < 30 → w j ≡ x j) → (os : List ℕ) → Inside os → wrong v w os ≡ wrong v x os
unfolding wrong
wrong-same v w x e [] i = refl
wrong-same v w x e (o ∷ os) i =
    let h : o < 15 = i.0 in
    let a : w (2 * o) ≡ x (2 * o) = e (2 * o) (omega arith) in
    let b : w (2 * o + 1) ≡ x (2 * o + 1) = e (2 * o + 1) (omega arith) in
    rw (a, b, wrong-same v w x e os i.1) refl

half_below : (j : ℕ) → j < 30 → j / 2 < 15
half_below j h = omega arith

module _ (r : Layout) (l : ℕ) (inside : l < r.lanes) (form : Form (r.octet l)) where
  octet_at : (i : ℕ) → i < 15 → nth (marker_at r l) i ≡ r.octet l i
  unfolding marker_at
  octet_at i h = rw (lt-ltb l r.lanes inside) (nth-table 15 (r.octet l) i h)

  small : (i : ℕ) → i < 15 → nth (marker_at r l) i < 256
  small i h = rw (octet_at i h) (form.octets i h)

  -- the number of the marker has the marker's nibbles
  pub own_by_number : (w : ℕ) → wrong (nibble w) (nibble (octets_number (nth (marker_at r l)) 15)) own ≡ wrong (nibble w) (nibble_of (r.octet l)) own
  own_by_number w = wrong-same (nibble w) (nibble (octets_number (nth (marker_at r l)) 15)) (nibble_of (r.octet l))
      (λ j h. nibble-number 15 (nth (marker_at r l)) small j h ∙ ap (λ (y : ℕ). nibble y (j % 2)) (octet_at (j / 2) (half_below j h)))
      own (search rules)

-- what all markers share
pub shared_by_form : (octet : ℕ → ℕ) → Form octet → (w : ℕ) → wrong (nibble w) (nibble_of octet) shared ≡ wrong (nibble w) (nibble 0xD9B56500264A9A) shared
unfolding wrong table
shared_by_form octet form w =
    let e = form.letters in
    let a : octet 0 ≡ 0x9A = ap (λ (xs : List ℕ). nth xs 0) e in
    let b : octet 1 ≡ 0x4A = ap (λ (xs : List ℕ). nth xs 1) e in
    let c : octet 2 ≡ 0x26 = ap (λ (xs : List ℕ). nth xs 2) e in
    let d : octet 4 ≡ 0x65 = ap (λ (xs : List ℕ). nth xs 4) e in
    let f : octet 5 ≡ 0xB5 = ap (λ (xs : List ℕ). nth xs 5) e in
    let g : octet 6 ≡ 0xD9 = ap (λ (xs : List ℕ). nth xs 6) e in
    rw (a, b, c, d, f, g) refl

wrong-none : (v : ℕ → ℕ) (os : List ℕ) → wrong v v os ≡ 0
unfolding wrong
wrong-none v [] = refl
wrong-none v (o ∷ os) = rw (eq-eqb (v (2 * o)) (v (2 * o)) refl, eq-eqb (v (2 * o + 1)) (v (2 * o + 1)) refl, wrong-none v os) refl

-- a marker as sent is near to itself
pub sent_near : (octet : ℕ → ℕ) → Form octet → (part : List ℕ) → Inside part → near (octets_number octet 15) octet part ≡ true
unfolding near
sent_near octet form part i =
    let x : ℕ = octets_number octet 15 in
    let e : wrong (nibble x) (nibble_of octet) part ≡ 0 =
    wrong-same (nibble x) (nibble_of octet) (nibble x) (λ j h. sym (nibble-number 15 octet form.octets j h)) part i ∙ wrong-none (nibble x) part in
    le-leb (wrong (nibble x) (nibble_of octet) part) 3 (omega arith)
