-- The lane that passes, and that it is the only one.
use Rattle.std.proofs.Common.{◌≡◌, ℕ, ◌<◌, ◌≤◌, Bool, true, false, ◌&&◌, ltb, leb, Option, Some, None, sym, refl, ap, rules, arith}
use Rattle.std.specs.Prelude.{MatchOption}
use Rattle.std.proofs.lemmas.Grind.{common_steps}
use Rattle.std.proofs.lemmas.Bool.{lt-ltb, le-ltb, ltb-true, and_parts}
use Rattle.bits.specs.Bits.{nth}
use Rattle.bits.specs.Lowest.{lowest}
use Rattle.bits.proofs.Lowest.{lowest-found, lowest_none}
use Rattle.lanes.specs.Markers.{marker_at, octets_number, nibble, wrong, shared, own, near, passes}
use Rattle.lanes.specs.Rates.{Layout}
use Rattle.lanes.specs.Lawful.{Lawful}
use Rattle.lanes.proofs.Numbers.{own_by_number, shared_by_form, sent_near}
use Rattle.lanes.proofs.Distance.{at_most_one}

-- what a search from 0 on answers
pub lowest_first : (f : ℕ → Bool) (n : ℕ) (r : Option ℕ) →
    MatchOption r ((k : ℕ) → 0 ≤ k → k < n → f k ≡ false) (λ i. (0 ≤ i) × (i < n) × (f i ≡ true) × ((k : ℕ) → 0 ≤ k → k < i → f k ≡ false)) →
    r ≡ lowest f n
lowest_first f n None h = sym (lowest_none f n (λ i l. h i (omega arith) l))
lowest_first f n (Some i) h = sym (lowest-found f i n h.1 (lowest_none f i (λ k l. h.3 k (omega arith) l)) h.2)

lowest_only : (f : ℕ → Bool) (n l : ℕ) → l < n → f l ≡ true → ((k : ℕ) → f k ≡ true → k ≡ l) → lowest f n ≡ Some l
lowest_only f n l h e only = lowest-found f l n h (lowest_none f l (λ i b. grind (arith, common_steps, only i))) e

module _ {r : Layout} (lawful : Lawful r) (window : ℕ) where
  -- in the octets that all markers share, all are as near
  shared-near : (l : ℕ) → l < r.lanes → near window (r.octet l) shared ≡ leb (wrong (nibble window) (nibble 0xD9B56500264A9A) shared) 3
  unfolding near
  shared-near l h = ap (λ (n : ℕ). leb n 3) (shared_by_form (r.octet l) (lawful.form l h) window)

  own-near : (l : ℕ) → l < r.lanes → near window (r.octet l) own ≡ leb (wrong (nibble window) (nibble (octets_number (nth (marker_at r l)) 15)) own) 3
  unfolding near
  own-near l h = ap (λ (n : ℕ). leb n 3) (sym (own_by_number r l h (lawful.form l h) window))

  -- what the tests of both parts answer
  pub passes_here : (l : ℕ) → l < r.lanes → passes r window l ≡
      leb (wrong (nibble window) (nibble 0xD9B56500264A9A) shared) 3 && leb (wrong (nibble window) (nibble (octets_number (nth (marker_at r l)) 15)) own) 3
  unfolding passes
  passes_here l h = rw (lt-ltb l r.lanes h, shared-near l h, own-near l h) refl

  pub passes_past : (l : ℕ) → r.lanes ≤ l → passes r window l ≡ false
  unfolding passes
  passes_past l h = rw (le-ltb l r.lanes h) refl

  passes_inside : (l : ℕ) → passes r window l ≡ true → l < r.lanes
  unfolding passes
  passes_inside l e = ltb-true l r.lanes (and_parts (ltb l r.lanes) (near window (r.octet l) shared && near window (r.octet l) own) e).0

  pub the_lane : (l : ℕ) → passes r window l ≡ true → lowest (passes r window) r.lanes ≡ Some l
  the_lane l e = lowest_only (passes r window) r.lanes l (passes_inside l e) e (λ k d. at_most_one lawful window k l d e)

  sent_passes : (l : ℕ) → l < r.lanes → window ≡ octets_number (r.octet l) 15 → passes r window l ≡ true
  unfolding passes
  sent_passes l h e =
      let f = lawful.form l h in
      let a = sent_near (r.octet l) f shared (search rules) in
      let b = sent_near (r.octet l) f own (search rules) in
      rw (e, lt-ltb l r.lanes h, a, b) refl

  pub sent_lane : (l : ℕ) → l < r.lanes → window ≡ octets_number (r.octet l) 15 → lowest (passes r window) r.lanes ≡ Some l
  sent_lane l h e = the_lane l (sent_passes l h e)
