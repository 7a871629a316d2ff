-- Tables of letters: the markers made of them, and a test by which a rate that has them is lawful.
use Rattle.std.specs.Prelude.{◌≡◌, ℕ, ◌^◌, ◌<◌, ◌≤◌, Bool, true, ◌&&◌, ◌||◌, ◌⊎◌, List, [], length, replicate, ◌==◌, ◌≢◌, nat_le, nat_lt, slice_index_or, refl}
use Rattle.std.proofs.Common.{sym, inl, inr, arith}
use Rattle.std.proofs.lemmas.Bool.{ltb-true, leb-true, eqb-true, and_parts, cases_Bool, lt-ltb, le-ltb}
use Rattle.std.proofs.lemmas.Bool.Decides.{nat_tests}
use Rattle.bits.specs.Bits.{table, nth}
use Rattle.lanes.specs.Markers.{marker_at, nibble_of, wrong, own}
use Rattle.lanes.specs.Letters.{marker_from, octet_in, layout_of, letters_eight, letters_sixteen}
use Rattle.lanes.specs.Rates.{marker_period}
use Rattle.lanes.specs.Lawful.{Form, Lawful}
use Rattle.bits.specs.Every.{every, every_two}
use Rattle.bits.proofs.Every.{every_at, every_two_at}

in_order : (ls : List ℕ) → table 15 (nth (marker_from ls)) ≡ marker_from ls
unfolding table
in_order ls = refl

pub marker_here : (t : List (List ℕ)) (pairs l : ℕ) → l < length t → marker_from (slice_index_or t l []) ≡ marker_at (layout_of t pairs) l
unfolding marker_at
marker_here t pairs l h = rw (lt-ltb l (length t) h) (sym (in_order (slice_index_or t l [])))

pub marker_past : (t : List (List ℕ)) (pairs l : ℕ) → length t ≤ l → replicate 15 0 ≡ marker_at (layout_of t pairs) l
unfolding marker_at
marker_past t pairs l h = rw (le-ltb l (length t) h) refl

abbrev pub small : List (List ℕ) → ℕ → Bool
small t l = every (λ i. nat_lt (octet_in t l i) 256) 15

abbrev pub far : List (List ℕ) → ℕ → ℕ → Bool
far t l m = l == m || nat_le 7 (wrong (nibble_of (octet_in t l)) (nibble_of (octet_in t m)) own)

formed : (t : List (List ℕ)) (lanes : ℕ) → every (small t) lanes ≡ true → (l : ℕ) → l < lanes → Form (octet_in t l)
formed t lanes e l h = record {
  letters = in_order (slice_index_or t l []);
  octets = λ i b. ltb-true (octet_in t l i) 256 (every_at (λ i. nat_lt (octet_in t l i) 256) 15 (every_at (small t) lanes e l h) i b);
}

distant : (t : List (List ℕ)) (lanes : ℕ) → every_two (far t) lanes ≡ true →
    (l m : ℕ) → l < lanes → m < lanes → (l ≢ m) → 7 ≤ wrong (nibble_of (octet_in t l)) (nibble_of (octet_in t m)) own
distant t lanes e l m h k n = grind (arith, nat_tests, every_two_at (far t) lanes e l m h k)

either : (t : List (List ℕ)) → length t == 8 || length t == 16 ≡ true → (length t ≡ 8) ⊎ (length t ≡ 16)
either t e = elim (cases_Bool (length t == 8)) [
  | inl a ↦ inl (eqb-true (length t) 8 a)
  | inr b ↦ inr (eqb-true (length t) 16 (search (e, b)))
]

-- Eight or sixteen rows of octets; a period from 9,600 to 2 ^ 31; any two markers far apart.
abbrev pub lawful_table : List (List ℕ) → ℕ → Bool
lawful_table t pairs =
    (length t == 8 || length t == 16)
    && (nat_le 9600 (marker_period (layout_of t pairs)) && nat_le (marker_period (layout_of t pairs)) (2 ^ 31))
    && (every (small t) (length t) && every_two (far t) (length t))

pub lawful : (t : List (List ℕ)) (pairs : ℕ) → lawful_table t pairs ≡ true → Lawful (layout_of t pairs)
lawful t pairs e =
    let width : Bool = length t == 8 || length t == 16 in
    let long : Bool = nat_le 9600 (marker_period (layout_of t pairs)) in
    let short : Bool = nat_le (marker_period (layout_of t pairs)) (2 ^ 31) in
    let all : (width && (long && short) ≡ true) × (every (small t) (length t) && every_two (far t) (length t) ≡ true) = and_parts _ _ e in
    let sizes : (width ≡ true) × (long && short ≡ true) = and_parts _ _ all.0 in
    let period : (long ≡ true) × (short ≡ true) = and_parts _ _ sizes.1 in
    let rows : (every (small t) (length t) ≡ true) × (every_two (far t) (length t) ≡ true) = and_parts _ _ all.1 in
    record {
      width = either t sizes.0;
      long = leb-true 9600 (marker_period (layout_of t pairs)) period.0;
      short = leb-true (marker_period (layout_of t pairs)) (2 ^ 31) period.1;
      form = formed t (length t) rows.0;
      apart = distant t (length t) rows.1;
    }

-- lanes 0 and 8 of sixteen
pub eight_of_twelve : wrong (nibble_of (octet_in letters_sixteen 0)) (nibble_of (octet_in letters_sixteen 8)) own ≡ 8
unfolding wrong
eight_of_twelve = refl

-- The letters of the three rates are lawful at any number of pairs whose period is.
pub lawful_eight : (pairs : ℕ) → 9600 ≤ marker_period (layout_of letters_eight pairs) → marker_period (layout_of letters_eight pairs) ≤ 2 ^ 31 → Lawful (layout_of letters_eight pairs)
unfolding wrong
lawful_eight pairs long short = record {
  width = inl refl;
  long = long;
  short = short;
  form = formed letters_eight 8 refl;
  apart = distant letters_eight 8 refl;
}

pub lawful_sixteen : (pairs : ℕ) → 9600 ≤ marker_period (layout_of letters_sixteen pairs) → marker_period (layout_of letters_sixteen pairs) ≤ 2 ^ 31 → Lawful (layout_of letters_sixteen pairs)
unfolding wrong
lawful_sixteen pairs long short = record {
  width = inr refl;
  long = long;
  short = short;
  form = formed letters_sixteen 16 refl;
  apart = distant letters_sixteen 16 refl;
}
