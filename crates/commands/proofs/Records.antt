-- Records one after another, and whether they are blocks.
use Rattle.std.proofs.Common.{◌≡◌, ℕ, zero, suc, ◌+◌, ◌<◌, ◌≤◌, true, false, eqb, leb, List, [], ◌∷◌, length, length-drop, get_or, take, drop, ap, ◌∙◌, sym, refl, ◌⊎◌, inl, inr, Option, None, Some, Ok, Err, Result, IsErr, add-one, arith}
use Rattle.std.proofs.lemmas.List.{drop-drop, get_or-drop}
use Rattle.std.proofs.lemmas.Bool.{eq-eqb, ne_eqb, eqb-true, cases_Bool, le-leb, le-ltb, ltb-false, leb-true}
use Rattle.std.proofs.lemmas.Option.{none-some}
use Rattle.std.specs.Option.{option_map}
use Rattle.blocks.specs.declared.refusal.Refusal.{Refusal}
use Rattle.blocks.specs.declared.refusal.Refusal.TheVariants.{Length, Kind}
use Rattle.blocks.specs.Calls.{outcome_of, begun, bad_kind, kind_above_3, four_refused, write_refused, written}
use Rattle.bits.specs.Lowest.{lowest}
use Rattle.bits.proofs.Lowest.{none_below}
use Rattle.blocks.specs.Blocks.{blocks_in}
use Rattle.blocks.specs.Groups.{group_bits, group_octets}
use Rattle.blocks.specs.Records.{look, rest_at, known, size_of, item_of}
use Rattle.commands.specs.Walks.{behind}
use Rattle.commands.proofs.Walks.{rest_first, rest_next}
use Rattle.commands.specs.Groups.{no_block, unwanted, first_refused, first_of}

pub answered_ok : {A : Type 0} (a x : A) (o : Option Refusal) → outcome_of a o ≡ Ok x → (o ≡ None) × (x ≡ a)
answered_ok a x None e = (refl, cc)
answered_ok a x (Some r) e = absurd cc

pub answered_err : {A : Type 0} (a : A) (o : Option Refusal) (r : Refusal) → outcome_of a o ≡ Err r → o ≡ Some r
answered_err a None r e = absurd cc
answered_err a (Some q) r e = cc

-- n blocks are to stand in xs, of which k are left from record i on
pub record Left (n : ℕ) (xs : List ℕ) (i k : ℕ) : Type 0 where
  pub count : i + k ≡ n
  pub same : first_refused n 0 xs ≡ first_refused k i (rest_at xs i)

pub all_left : (n : ℕ) (xs : List ℕ) → Left n xs 0 n
all_left n xs = record { count = omega arith; same = ap (first_refused n 0) (sym (rest_first xs)) }

pub none_left : (n i k : ℕ) (xs : List ℕ) → n ≤ i → Left n xs i k → first_refused n 0 xs ≡ None
unfolding first_refused
none_left n i zero xs l h = h.same
none_left n i (suc k) xs l h = absurd (omega (arith, h.count))

pub refused_here : (n i k : ℕ) (xs : List ℕ) (e : Refusal) → i < n → Left n xs i k → no_block (look i (rest_at xs i)) ≡ Some e
    → first_refused n 0 xs ≡ Some e
unfolding first_refused
refused_here n i zero xs e l h r = absurd (omega (arith, h.count))
refused_here n i (suc k) xs e l h r = h.same ∙ ap (λ o. first_of o (first_refused k (suc i) (behind (rest_at xs i)))) r

pub block_here : (n i k : ℕ) (xs : List ℕ) → i < n → Left n xs i k → no_block (look i (rest_at xs i)) ≡ None
    → (m : ℕ) × Left n xs (i + 1) m
unfolding first_refused
block_here n i zero xs l h r = absurd (omega (arith, h.count))
block_here n i (suc k) xs l h r =
    (k, record { count = omega (arith, h.count); same = h.same ∙ ap (λ o. first_of o (first_refused k (suc i) (behind (rest_at xs i)))) r ∙ ap (λ j. first_refused k j (behind (rest_at xs i))) (sym (add-one i)) ∙ ap (first_refused k (i + 1)) (sym (rest_next xs i)) })

-- what stands at the front: a block, less than a record, or what is no block
abbrev pub IsBlock : List ℕ → Type 0
IsBlock xs = (9 ≤ length xs) × (get_or xs 0 0 < 4) × (behind xs ≡ drop 9 xs) × ((i : ℕ) → no_block (look i xs) ≡ None)

abbrev pub IsCut : List ℕ → Type 0
IsCut xs = (i : ℕ) → no_block (look i xs) ≡ Some Length

abbrev pub IsOther : List ℕ → Type 0
IsOther xs = (i : ℕ) → no_block (look i xs) ≡ Some (Kind i)

read_item : (k : ℕ) (body : List ℕ) → known k ≡ true → ((k < 4) × ((i : ℕ) → unwanted i (item_of k body) ≡ None)) ⊎ ((k ≡ 16) × ((i : ℕ) → unwanted i (item_of k body) ≡ Some (Kind i)))
read_item k body h = elim (cases_Bool (eqb k 16)) [
  | inl e ↦ inr (eqb-true k 16 e, λ i. rw e refl)
  | inr e ↦ elim (cases_Bool (leb k 3)) [
    | inr f ↦ let g : false ≡ true = rw (f, e) at h in absurd cc
    | inl f ↦
        let small : k < 4 = omega (arith, leb-true k 3 f) in
        elim (cases_Bool (eqb k 2)) [
          | inl g ↦ inl (small, λ i. rw (e, g) refl)
          | inr g ↦ elim (cases_Bool (eqb k 1)) [
            | inl m ↦ inl (small, λ i. rw (e, g, m) refl)
            | inr m ↦ inl (small, λ i. rw (e, g, m) refl)
          ]
        ]
  ]
]

pub at_front : (xs : List ℕ) → IsBlock xs ⊎ (IsCut xs ⊎ IsOther xs)
unfolding look
at_front [] = inr (inl (λ i. refl))
at_front (k ∷ xs) = elim (cases_Bool (known k)) [
  | inr e ↦ inr (inr (λ i. rw e refl))
  | inl e ↦ elim (cases_Bool (leb (size_of k) (length xs))) [
    | inr f ↦ inr (inl (λ i. rw (e, f) refl))
    | inl f ↦ elim (read_item k (take (size_of k) xs) e) [
      | inr g ↦ inr (inr (λ i. rw (e, f) (g.1 i)))
      | inl g ↦
          let other : eqb k 16 ≡ false = ne_eqb k 16 (λ h. absurd (omega (arith, g.0, h))) in
          let room : 8 ≤ length xs = rw other at (leb-true (size_of k) (length xs) f) in
          inl (omega arith, g.0, rw other refl, λ i. rw (e, f) (g.1 i))
    ]
  ]
]

-- a front that is accepted has a block first, and then the rest of them
block_first : (n i : ℕ) (xs : List ℕ) → first_refused (suc n) i xs ≡ None → IsBlock xs × (first_refused n (suc i) (drop 9 xs) ≡ None)
unfolding first_refused
block_first n i xs h = elim (at_front xs) [
  | inl b ↦ (b, ap (first_refused n (suc i)) (sym b.2) ∙ rw (b.3 i) at h)
  | inr (inl b) ↦ let g = rw (b i) at h in absurd cc
  | inr (inr b) ↦ let g = rw (b i) at h in absurd cc
]

pub not_refused : (xs : List ℕ) → length xs ≤ 36 → first_refused 4 0 xs ≡ None → (length xs ≡ 36) × (four_refused xs ≡ None)
unfolding four_refused bad_kind lowest
not_refused xs l h =
    let (a, ha) = block_first 3 0 xs h in
    let (b, hb) = block_first 2 1 (drop 9 xs) ha in
    let (c, hc) = block_first 1 2 (drop 9 (drop 9 xs)) hb in
    let (d, hd) = block_first 0 3 (drop 9 (drop 9 (drop 9 xs))) hc in
    let p = length-drop 9 xs in
    let q = length-drop 9 (drop 9 xs) in
    let r = length-drop 9 (drop 9 (drop 9 xs)) in
    let whole : length xs ≡ 36 = omega (arith, a.0, b.0, c.0, d.0) in
    let e : eqb (length xs) 36 ≡ true = eq-eqb _ _ whole in
    let n : begun xs ≡ 4 = omega arith in
    let t : drop 9 (drop 9 xs) ≡ drop 18 xs = drop-drop 9 9 xs in
    let u : drop 9 (drop 9 (drop 9 xs)) ≡ drop 27 xs = ap (drop 9) t ∙ drop-drop 9 18 xs in
    let k0 = le-ltb 3 (get_or xs 0 0) (omega (arith, a.1)) in
    let k1 = le-ltb 3 (get_or xs 9 0) (omega (arith, b.1, get_or-drop 9 xs 0 0)) in
    let k2 = le-ltb 3 (get_or xs 18 0) (omega (arith, c.1, ap (λ ys. get_or ys 0 0) t, get_or-drop 18 xs 0 0)) in
    let k3 = le-ltb 3 (get_or xs 27 0) (omega (arith, d.1, ap (λ ys. get_or ys 0 0) u, get_or-drop 27 xs 0 0)) in
    (whole, rw (e, n, k0, k1, k2, k3) refl)

-- The same front from another index on: the same refusal, at the same place from there.
pub refused_from : (n i m : ℕ) (xs : List ℕ) (e : Refusal) → first_refused n i xs ≡ Some e →
    ((e ≡ Length) × (first_refused n m xs ≡ Some Length)) ⊎ ((j : ℕ) × (e ≡ Kind (i + j)) × (j < n) × (first_refused n m xs ≡ Some (Kind (m + j))))
unfolding first_refused
refused_from zero i m xs e h = absurd cc
refused_from (suc n) i m xs e h = elim (at_front xs) [
  | inl b ↦
      elim (refused_from n (suc i) (suc m) (behind xs) e (rw (b.3 i) at h)) [
        | inl (r, s) ↦ inl (r, rw (b.3 m) s)
        | inr (j, r, l, s) ↦ inr (suc j, r ∙ ap Kind (omega arith), omega arith, rw (b.3 m) (s ∙ ap (λ k. Some (Kind k)) (omega arith)))
      ]
  | inr (inl b) ↦ let g = rw (b i) at h in inl (cc, rw (b m) refl)
  | inr (inr b) ↦ let g = rw (b i) at h in let same : e ≡ Kind i = cc in inr (0, same ∙ ap Kind (omega arith), omega arith, rw (b m) (ap (λ k. Some (Kind k)) (omega arith)))
]

pub not_refused_from : (n i m : ℕ) (xs : List ℕ) → first_refused n i xs ≡ None → first_refused n m xs ≡ None
unfolding first_refused
not_refused_from zero i m xs h = refl
not_refused_from (suc n) i m xs h = elim (at_front xs) [
  | inl b ↦ rw (b.3 m) (not_refused_from n (suc i) (suc m) (behind xs) (rw (b.3 i) at h))
  | inr (inl b) ↦ let g = rw (b i) at h in absurd cc
  | inr (inr b) ↦ let g = rw (b i) at h in absurd cc
]

is_block : (xs : List ℕ) → 9 ≤ length xs → get_or xs 0 0 < 4 → IsBlock xs
unfolding look
is_block [] l h = absurd (omega arith)
is_block (k ∷ xs) l h =
    let low : leb k 3 ≡ true = le-leb k 3 (omega (arith, h)) in
    let kind : known k ≡ true = rw low refl in
    let other : eqb k 16 ≡ false = ne_eqb k 16 (λ e. absurd (omega (arith, h, e))) in
    let room : leb (size_of k) (length xs) ≡ true = rw other (le-leb 8 (length xs) (omega (arith, l))) in
    elim (read_item k (take (size_of k) xs) kind) [
      | inr g ↦ absurd (omega (arith, h, g.0))
      | inl g ↦ (l, h, rw other refl, λ i. rw (kind, room) (g.1 i))
    ]

block_before : (n i : ℕ) (xs : List ℕ) → 9 ≤ length xs → get_or xs 0 0 < 4 → first_refused n (suc i) (drop 9 xs) ≡ None → first_refused (suc n) i xs ≡ None
unfolding first_refused
block_before n i xs l h rest = let b = is_block xs l h in rw (b.3 i) (ap (first_refused n (suc i)) b.2 ∙ rest)

unmapped : (o : Option ℕ) → option_map Kind o ≡ None → o ≡ None
unmapped None h = refl
unmapped (Some i) h = absurd cc

-- where four records are not refused, the walk over them is not either
all_blocks : (i : ℕ) (xs : List ℕ) → four_refused xs ≡ None → first_refused 4 i xs ≡ None
unfolding four_refused bad_kind first_refused
all_blocks i xs h = elim (cases_Bool (eqb (length xs) 36)) [
  | inr e ↦ let g = rw e at h in absurd cc
  | inl e ↦
      let whole : length xs ≡ 36 = eqb-true _ _ e in
      let n : begun xs ≡ 4 = omega arith in
      let none : lowest (kind_above_3 xs) 4 ≡ None = unmapped _ (rw (e, n) at h) in
      let p = length-drop 9 xs in
      let q = length-drop 9 (drop 9 xs) in
      let r = length-drop 9 (drop 9 (drop 9 xs)) in
      let t : drop 9 (drop 9 xs) ≡ drop 18 xs = drop-drop 9 9 xs in
      let u : drop 9 (drop 9 (drop 9 xs)) ≡ drop 27 xs = ap (drop 9) t ∙ drop-drop 9 18 xs in
      let k0 : get_or xs 0 0 ≤ 3 = ltb-false 3 (get_or xs 0 0) (none_below (kind_above_3 xs) 4 none 0 (omega arith)) in
      let k1 : get_or xs 9 0 ≤ 3 = ltb-false 3 (get_or xs 9 0) (none_below (kind_above_3 xs) 4 none 1 (omega arith)) in
      let k2 : get_or xs 18 0 ≤ 3 = ltb-false 3 (get_or xs 18 0) (none_below (kind_above_3 xs) 4 none 2 (omega arith)) in
      let k3 : get_or xs 27 0 ≤ 3 = ltb-false 3 (get_or xs 27 0) (none_below (kind_above_3 xs) 4 none 3 (omega arith)) in
      block_before 3 i xs (omega (arith, whole)) (omega (arith, k0))
      (block_before 2 (suc i) (drop 9 xs) (omega (arith, whole, p)) (omega (arith, k1, get_or-drop 9 xs 0 0))
      (block_before 1 (suc (suc i)) (drop 9 (drop 9 xs)) (omega (arith, whole, p, q)) (omega (arith, k2, ap (λ ys. get_or ys 0 0) t, get_or-drop 18 xs 0 0))
      (block_before 0 (suc (suc (suc i))) (drop 9 (drop 9 (drop 9 xs))) (omega (arith, whole, p, q, r)) (omega (arith, k3, ap (λ ys. get_or ys 0 0) u, get_or-drop 27 xs 0 0)) refl)))
]

-- four records that are not refused are blocks, and become a group
pub group_written : (i : ℕ) (xs group : List ℕ) → length group ≡ 33 → write_refused xs group ≡ None
    → (first_refused 4 i xs ≡ None) × (written xs group ≡ group_octets (group_bits (blocks_in 4 xs)))
unfolding write_refused written
group_written i xs group g h =
    let e : eqb (length group) 33 ≡ true = eq-eqb _ _ g in
    let f : four_refused xs ≡ None = rw e at h in
    (all_blocks i xs f, rw (e, f) refl)

-- of four records that are refused the walk refuses one
pub walk_refused : (xs group : List ℕ) (why : Refusal) (r : Result (Unit {0}) Refusal) → length xs ≤ 36 → length group ≡ 33 → write_refused xs group ≡ Some why
    → r ≡ outcome_of (tt {0}) (first_refused 4 0 xs) → IsErr r
unfolding write_refused
walk_refused xs group why r l g h answer = split (first_refused 4 0 xs) refl answer
  where
    split : (o : Option Refusal) → first_refused 4 0 xs ≡ o → r ≡ outcome_of (tt {0}) o → IsErr r
    split (Some e) p a = rw a refl
    split None p a =
        let e : eqb (length group) 33 ≡ true = eq-eqb _ _ g in
        let f : four_refused xs ≡ None = (not_refused xs l p).1 in
        let n : write_refused xs group ≡ None = rw (e, f) refl in
        absurd (none-some why (sym n ∙ h))

pub refused_at_end : (n i : ℕ) → first_refused (suc n) i [] ≡ Some Length
unfolding first_refused look
refused_at_end n i = refl
