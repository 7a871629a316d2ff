-- Writing its part of a strip to each lane, one after another.
use Rattle.std.proofs.Common.{◌≡◌, ℕ, zero, suc, ◌+◌, ◌*◌, ◌-◌, ◌<◌, ◌≤◌, List, [], ◌∷◌, length, take, drop, slice_get, slice_set, append-nil, ap, ◌∙◌, subst, sym, refl, Option, Some, ◌⊎◌, inl, inr, arith, slice_range}
use Rattle.std.proofs.lemmas.Bool.{cases_lt}
use Rattle.std.specs.Io.KnownBytes.{Appends}
use Rattle.std.proofs.KnownBytes.{Appends-nil}
use Rattle.commands.specs.Streams.{AppendsFront}
use Rattle.commands.specs.Strips.{EachLane, lane_part}

-- what stands in a list after a store
set_get : {W : Type 0} (xs : List W) (i l : ℕ) (x w : W) → i < length xs → slice_get (slice_set xs i x) l ≡ Some w → ((l ≡ i) × (w ≡ x)) ⊎ ((l ≡ i → ⊥) × (slice_get xs l ≡ Some w))
set_get [] i l x w h g = absurd (omega (arith, h))
set_get (y ∷ ys) zero zero x w h g = inl (refl, cc)
set_get (y ∷ ys) zero (suc l) x w h g = inr (λ e. absurd (omega (arith, e)), g)
set_get (y ∷ ys) (suc i) zero x w h g = inr (λ e. absurd (omega (arith, e)), g)
set_get (y ∷ ys) (suc i) (suc l) x w h g = elim (set_get ys i l x w (omega (arith, h)) g) [
  | inl (e, f) ↦ inl (ap suc e, f)
  | inr (n, f) ↦ inr (λ e. n (omega (arith, e)), f)
]

some_is : {W : Type 0} (v w : W) → ◌≡◌ {A = Option W} (Some v) (Some w) → v ≡ w
some_is v w e = cc

pub part_is : (size lane : ℕ) (strip : List ℕ) → slice_range strip (size * lane) (size * (lane + 1)) ≡ lane_part size strip lane
part_is size lane strip =
    let e : size * (lane + 1) - size * lane ≡ size = grind arith in
    ap (λ n. take n (drop (size * lane) strip)) e

pub none_written : {W : Type 0} (contents : W → Option (List ℕ)) (size : ℕ) (strip : List ℕ) (old : List W) → EachLane old old (λ k v w. (k < 0 → Appends (contents v) (contents w) (lane_part size strip k)) × (0 ≤ k → w ≡ v))
none_written contents size strip old k v w e f = (λ l. absurd (omega (arith, l)), λ l. some_is w v (sym f ∙ e))

module _ {W : Type 0} (contents : W → Option (List ℕ)) (size : ℕ) (strip : List ℕ) (old lanes : List W) (lane : ℕ) where
  -- the lanes before this one have their parts, and the others are as they were
  abbrev pub Written : Type 0
  Written = EachLane old lanes (λ k v w. (k < lane → Appends (contents v) (contents w) (lane_part size strip k)) × (lane ≤ k → w ≡ v))

  pub all_written : length old ≤ lane → ((k : ℕ) (v : W) → slice_get old k ≡ Some v → k < length old) → Written → EachLane old lanes (λ k v w. Appends (contents v) (contents w) (lane_part size strip k))
  all_written l within h k v w e f = (h k v w e f).0 (omega (arith, l, within k v e))

  module _ (x y : W) (there : lane < length lanes) (at : slice_get lanes lane ≡ Some x) (h : Written) where
    pub one_more : Appends (contents x) (contents y) (lane_part size strip lane)
        → EachLane old (slice_set lanes lane y) (λ k v w. (k < lane + 1 → Appends (contents v) (contents w) (lane_part size strip k)) × (lane + 1 ≤ k → w ≡ v))
    one_more p k v w e f = elim (set_get lanes lane k y w there f) [
      | inl (same, is) ↦
          let was : x ≡ v = (h lane v x (subst (λ n. slice_get old n ≡ Some v) same e) at).1 (omega arith) in (
            λ l. subst (λ n. Appends (contents v) (contents w) (lane_part size strip n)) (sym same) (subst (λ (z : W). Appends (contents v) (contents z) (lane_part size strip lane)) (sym is) (subst (λ (z : W). Appends (contents z) (contents y) (lane_part size strip lane)) was p)),
            λ l. absurd (omega (arith, same, l)),
          )
      | inr (other, stays) ↦
          let q = h k v w e stays in
          (λ l. q.0 (grind (arith, other, l)), λ l. q.1 (omega (arith, l)))
    ]

    pub one_cut : AppendsFront (contents x) (contents y) (lane_part size strip lane)
        → EachLane old (slice_set lanes lane y) (λ k v w. AppendsFront (contents v) (contents w) (lane_part size strip k))
    one_cut p k v w e f = elim (set_get lanes lane k y w there f) [
      | inl (same, is) ↦
          let was : x ≡ v = (h lane v x (subst (λ n. slice_get old n ≡ Some v) same e) at).1 (omega arith) in
          subst (λ n. AppendsFront (contents v) (contents w) (lane_part size strip n)) (sym same) (subst (λ (z : W). AppendsFront (contents v) (contents z) (lane_part size strip lane)) (sym is) (subst (λ (z : W). AppendsFront (contents z) (contents y) (lane_part size strip lane)) was p))
      | inr (other, stays) ↦
          let q = h k v w e stays in
          elim (cases_lt k lane) [
            | inl l ↦ (lane_part size strip k, [], sym (append-nil (lane_part size strip k)), q.0 l)
            | inr l ↦ ([], lane_part size strip k, refl, subst (λ (z : W). Appends (contents v) (contents z) []) (sym (q.1 l)) (Appends-nil (contents v)))
          ]
    ]
