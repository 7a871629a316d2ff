-- A window passes for at most one lane: the markers of two would differ in at most 3 + 3 nibbles, and they do in 7.
use Rattle.std.proofs.Common.{◌≡◌, ℕ, ◌+◌, ◌*◌, ◌<◌, ◌≤◌, true, List, [], ◌∷◌, inl, inr, arith}
use Rattle.std.proofs.lemmas.Bool.{cases_eq}
use Rattle.std.proofs.lemmas.Bool.Decides.{nat_tests}
use Rattle.lanes.specs.Markers.{nibble, nibble_of, unequal, wrong, own, near, passes}
use Rattle.lanes.specs.Rates.{Layout}
use Rattle.lanes.specs.Lawful.{Lawful}

by_way_of : (a b c : ℕ) → unequal b c ≤ unequal a b + unequal a c
by_way_of a b c = grind (arith, nat_tests)

triangle : (v w x : ℕ → ℕ) (os : List ℕ) → wrong w x os ≤ wrong v w os + wrong v x os
unfolding wrong
triangle v w x [] = omega arith
triangle v w x (o ∷ os) =
    let a = by_way_of (v (2 * o)) (w (2 * o)) (x (2 * o)) in
    let b = by_way_of (v (2 * o + 1)) (w (2 * o + 1)) (x (2 * o + 1)) in
    let c = triangle v w x os in
    omega arith

module _ {r : Layout} (lawful : Lawful r) (window : ℕ) where
  passed : (l : ℕ) → passes r window l ≡ true → (l < r.lanes) × (wrong (nibble window) (nibble_of (r.octet l)) own ≤ 3)
  unfolding passes near
  passed l e = grind (arith, nat_tests)

  pub at_most_one : (l m : ℕ) → passes r window l ≡ true → passes r window m ≡ true → l ≡ m
  at_most_one l m p q = elim (cases_eq l m) [
    | inl e ↦ e
    | inr n ↦
        let a = passed l p in
        let b = passed m q in
        let t = triangle (nibble window) (nibble_of (r.octet l)) (nibble_of (r.octet m)) own in
        let d = lawful.apart l m a.0 b.0 n in
        absurd (omega (arith, a.1, b.1))
  ]
