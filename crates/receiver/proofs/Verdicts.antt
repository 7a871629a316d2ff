-- What is told, in the subject's words.
use Rattle.std.proofs.Common.{◌≡◌, ◌≢◌, ℕ, ◌<◌, ◌≤◌, ◌+◌, ◌-◌, ◌*◌, ◌⊎◌, T, Bool, true, false, not, ◌&&◌, is_some, Ok, Err, Some, None, Result, Option, List, length, map, get_or, replicate, sym, refl, ap, ◌∙◌, inl, inr, arith, pos, ◌-ℤ◌, ◌≤ℤ◌, ◌<ℤ◌}
use borrow.Author.Differences.{ints}
use Rattle.std.specs.Prelude.{int_lt, eqb, if◌then◌else◌, nat_lt}
use Rattle.std.specs.List.{list_all, All, Contains}
use Rattle.std.proofs.Math.IntN.{ℤ}
use Rattle.std.proofs.lemmas.Bool.{cases_Bool, cases_eq, cases_lt, lt-ltb, le-ltb, eq-eqb, ne_eqb, eqb-true, and_parts, and_from}
use Rattle.std.proofs.lemmas.Int.{fold-int_max_bounds, fold-int_min_bounds, fold-int_max_reached, fold-int_min_reached}
use Rattle.std.specs.Int.Signed.{lt_z_yes, lt_z_no}
use Rattle.std.proofs.lemmas.List.{get_or-map, length-map}
use Rattle.std.proofs.lemmas.List.Elements.{All-get_or, All-from_get_or}
use Rattle.std.proofs.lemmas.List.Sums.{list_all-from_AllPass}
use Rattle.std.proofs.lemmas.List.Folds.{list_all_at}
use Rattle.bits.specs.Lowest.{lowest}
use Rattle.bits.proofs.Lowest.{none_below}
use Rattle.code.proofs.Lists.{lowest_some}
use Rattle.lanes.specs.Faults.{five_failed}
use Rattle.lanes.specs.Locks.{ticked, next_lock, lock_event}
use Rattle.receiver.proofs.Quiet.{searched, searches, wait_early, wait_passes, wait_fails, hold_early, hold_passes, hold_counts, hold_loses}
use Rattle.lanes.specs.Rates.{Layout, marker_period}
use Rattle.lanes.specs.declared.lock.Lock.{Lock}
use Rattle.lanes.specs.declared.lock.Lock.TheVariants.{Searching, Waiting, Locked}
use Rattle.lanes.specs.declared.lock.Event.{Event}
use Rattle.lanes.specs.declared.lock.Event.TheVariants.{Quiet as QuietEvent, Waits, Locks, Fails, FifthFailure}
use Rattle.receiver.specs.Laws.{Lowest, AllLocked, HasTwin, SharesLane, DifferentLanes, NearSkews}
use Rattle.receiver.specs.Positions.{lock_at, passes_at, event_at, locks_after, is_fifth_failure, is_lock, is_locked, lane_of, is_twin, shares_lane, lane_shared}
use Rattle.receiver.proofs.Advancing.{after_at}
use Rattle.receiver.specs.Skews.{ticks_left, skew, largest, smallest, too_wide, most_apart}

pub fifth_so : (e : Event) → is_fifth_failure e ≡ true → e ≡ FifthFailure
fifth_so QuietEvent h = absurd (cc)
fifth_so Waits h = absurd (cc)
fifth_so Locks h = absurd (cc)
fifth_so Fails h = absurd (cc)
fifth_so FifthFailure h = refl

pub lock_so : (e : Event) → is_lock e ≡ true → e ≡ Locks
lock_so QuietEvent h = absurd (cc)
lock_so Waits h = absurd (cc)
lock_so Locks h = refl
lock_so Fails h = absurd (cc)
lock_so FifthFailure h = absurd (cc)

no_T : {b : Bool} → b ≡ false → T (not b)
no_T e = rw e tt

yes_T : {b : Bool} → b ≡ true → T b
yes_T e = rw e tt

contained : {A : Type 0} (f : A → ℤ) (xs : List A) (d : A) (z : ℤ) → Contains (map f xs) z → (i : ℕ) × (i < length xs) × (z ≡ f (get_or xs i d))
contained f xs d z c = let l : c.0 < length xs = omega (arith, length-map xs f) in (c.0, l, sym c.2 ∙ get_or-map f xs c.0 d z l)

true_false : (b : Bool) → b ≡ true → b ≡ false → ⊥
true_false b p q = let z : true ≡ false = sym p ∙ q in absurd (cc)

-- the lowest place at which a test holds, of those below n
pub lowest_so : (P : ℕ → Type 0) (f : ℕ → Bool) (n i : ℕ) → ((k : ℕ) → f k ≡ true → P k) → ((k : ℕ) → P k → f k ≡ true) → lowest f n ≡ Some i → Lowest (λ k. (k < n) × P k) i
lowest_so P f n i to back e =
    let t = lowest_some f n i e in
    ((t.0, to i t.1), λ j l p. true_false (f j) (back j p.1) (t.2 j l))

pub none_so : (P : ℕ → Type 0) (f : ℕ → Bool) (n : ℕ) → ((k : ℕ) → P k → f k ≡ true) → lowest f n ≡ None → (i : ℕ) → (i < n) × P i → ⊥
none_so P f n back e i p = true_false (f i) (back i p.1) (none_below f n e i p.0)

module _ (locks : List Lock) where
  pub all_locked : list_all is_locked locks ≡ true → AllLocked locks
  all_locked e i l = elim (cases_Bool (is_locked (lock_at locks i))) [
    | inl t ↦ t
    | inr t ↦ absurd (true_false (list_all is_locked locks) e (list_all_at is_locked locks i Searching l t))
  ]

  pub locked_all : AllLocked locks → list_all is_locked locks ≡ true
  locked_all all = list_all-from_AllPass is_locked locks (All-from_get_or (λ (x : Lock). is_locked x ≡ true) locks Searching all)

  twin_from : (j i : ℕ) → (j ≢ i) → lane_of (lock_at locks j) ≡ lane_of (lock_at locks i) → is_twin locks j i ≡ true
  twin_from j i ne e = let a = ne_eqb j i ne in let b = eq-eqb _ _ e in rw (a, b) refl

  twin_so : (j i : ℕ) → is_twin locks j i ≡ true → (j ≢ i) × (lane_of (lock_at locks j) ≡ lane_of (lock_at locks i))
  twin_so j i e =
      let p = and_parts (not (eqb j i)) (eqb (lane_of (lock_at locks j)) (lane_of (lock_at locks i))) e in
      (λ d. let z = eq-eqb j i d in true_false (eqb j i) z (negated (eqb j i) p.0), eqb-true _ _ p.1)
    where
      negated : (b : Bool) → not b ≡ true → b ≡ false
      negated true h = absurd (cc)
      negated false h = refl

  shares_so : (i : ℕ) → shares_lane locks i ≡ true → HasTwin locks i
  unfolding shares_lane
  shares_so i e = split (lowest (λ j. is_twin locks j i) (length locks)) refl e
    where
      split : (o : Option ℕ) → lowest (λ j. is_twin locks j i) (length locks) ≡ o → is_some o ≡ true → HasTwin locks i
      split (Some j) q h = let t = lowest_some (λ j. is_twin locks j i) (length locks) j q in let d = twin_so j i t.1 in (j, t.0, d.0, d.1)
      split None q h = absurd (cc)

  shares_from : (i : ℕ) → HasTwin locks i → shares_lane locks i ≡ true
  unfolding shares_lane
  shares_from i s = split (lowest (λ j. is_twin locks j i) (length locks)) refl
    where
      split : (o : Option ℕ) → lowest (λ j. is_twin locks j i) (length locks) ≡ o → is_some (lowest (λ j. is_twin locks j i) (length locks)) ≡ true
      split (Some j) q = ap (λ (o : Option ℕ). is_some o) q
      split None q = absurd (none_so (λ j. (j ≢ i) × (lane_of (lock_at locks j) ≡ lane_of (lock_at locks i))) (λ j. is_twin locks j i) (length locks) (λ k p. twin_from k i p.0 p.1) q s.0 (s.1, (s.2, s.3)))

  pub lowest_shared : (i : ℕ) → lane_shared locks ≡ Some i → Lowest (SharesLane locks) i
  unfolding lane_shared
  lowest_shared i e = lowest_so (HasTwin locks) (shares_lane locks) (length locks) i shares_so shares_from e

  pub lanes_differ : lane_shared locks ≡ None → DifferentLanes locks
  unfolding lane_shared
  lanes_differ e i j l m d = elim (cases_eq i j) [
    | inl same ↦ same
    | inr ne ↦ absurd (none_so (HasTwin locks) (shares_lane locks) (length locks) shares_from e j (m, (i, l, ne, d)))
  ]

  pub none_shared : DifferentLanes locks → lane_shared locks ≡ None
  none_shared differ = split (lane_shared locks) refl
    where
      split : (o : Option ℕ) → lane_shared locks ≡ o → lane_shared locks ≡ None
      split None e = e
      split (Some i) e = let t = (lowest_shared i e).0 in absurd (t.1.2 (differ t.1.0 i t.1.1 t.0 t.1.3))

  module _ (period : ℕ) where
    below : (i : ℕ) → i < length locks → skew period (lock_at locks i) ≤ℤ largest (map (skew period) locks)
    below i l =
        let b = fold-int_max_bounds (pos 0) (map (skew period) locks) (largest (map (skew period) locks)) refl in
        let a = All-get_or (λ x. x ≤ℤ largest (map (skew period) locks)) (map (skew period) locks) i (pos 0) (omega (arith, length-map locks (skew period))) b.1 in
        rw (get_or-map (skew period) locks i Searching (pos 0) l) at a

    above : (i : ℕ) → i < length locks → smallest (map (skew period) locks) ≤ℤ skew period (lock_at locks i)
    above i l =
        let b = fold-int_min_bounds (pos 0) (map (skew period) locks) (smallest (map (skew period) locks)) refl in
        let a = All-get_or (λ x. smallest (map (skew period) locks) ≤ℤ x) (map (skew period) locks) i (pos 0) (omega (arith, length-map locks (skew period))) b.1 in
        rw (get_or-map (skew period) locks i Searching (pos 0) l) at a

    pub skews_near : too_wide period locks ≡ false → NearSkews period locks
    unfolding too_wide
    skews_near e i j l m =
        let a = below i l in
        let b = above j m in
        let c : (largest (map (skew period) locks) -ℤ smallest (map (skew period) locks)) ≤ℤ pos most_apart = lt_z_no (no_T e) in
        omega (arith, ints)

    -- a position with skew 0 among them, each of the two is the skew of a position
    at_most : (z : ℤ) (k : ℕ) → k < length locks → skew period (lock_at locks k) ≡ pos 0 → (z ≡ pos 0) ⊎ Contains (map (skew period) locks) z → (i : ℕ) × (i < length locks) × (z ≡ skew period (lock_at locks i))
    at_most z k l zero_here (inl e) = (k, l, e ∙ sym zero_here)
    at_most z k l zero_here (inr c) = contained (skew period) locks Searching z c

    pub not_near : (k : ℕ) → k < length locks → skew period (lock_at locks k) ≡ pos 0 → too_wide period locks ≡ true → NearSkews period locks → ⊥
    unfolding too_wide
    not_near k l zero_here e near =
        let top = at_most (largest (map (skew period) locks)) k l zero_here (fold-int_max_reached (pos 0) (map (skew period) locks) (largest (map (skew period) locks)) refl) in
        let bottom = at_most (smallest (map (skew period) locks)) k l zero_here (fold-int_min_reached (pos 0) (map (skew period) locks) (smallest (map (skew period) locks)) refl) in
        let n = near top.0 bottom.0 top.1 bottom.1 in
        let c : pos most_apart <ℤ (largest (map (skew period) locks) -ℤ smallest (map (skew period) locks)) = lt_z_yes (yes_T e) in
        let t = top.2 in
        let b = bottom.2 in
        absurd (omega (arith, ints))

    pub near_enough : (k : ℕ) → k < length locks → skew period (lock_at locks k) ≡ pos 0 → NearSkews period locks → too_wide period locks ≡ false
    near_enough k l zero_here near = elim (cases_Bool (too_wide period locks)) [
      | inl t ↦ absurd (not_near k l zero_here t near)
      | inr t ↦ t
    ]

-- a position that locks is a period from its next test, so its skew is 0
module _ (r : Layout) where
  abbrev full : ℕ
  full = marker_period r

  searched_so : (o : Option ℕ) → (searched full o).1 ≡ Locks → ticks_left (searched full o).0 ≡ full
  searched_so None e = absurd (cc)
  searched_so (Some l) e = absurd (cc)

  told_by : (test : ℕ → Bool) (lock : Lock) (x : Lock × Event) → ticked r test lock ≡ x → lock_event r test lock ≡ Locks → x.1 ≡ Locks
  told_by test lock x f e = sym (ap (λ (y : Lock × Event). y.1) f) ∙ e

  full_by : (test : ℕ → Bool) (lock : Lock) (x : Lock × Event) → ticked r test lock ≡ x → ticks_left x.0 ≡ full → ticks_left (next_lock r test lock) ≡ full
  full_by test lock x f e = ap (λ (y : Lock × Event). ticks_left y.0) f ∙ e

  lock_full : (test : ℕ → Bool) (lock : Lock) → lock_event r test lock ≡ Locks → ticks_left (next_lock r test lock) ≡ full
  lock_full test Searching e =
      let f = searches r test in
      full_by test Searching _ f (searched_so (lowest test r.lanes) (told_by test Searching _ f e))
  lock_full test (Waiting l left) e = elim (cases_Bool (nat_lt 1 left)) [
    | inl a ↦ let g = told_by test (Waiting l left) _ (wait_early r test l left a) e in absurd (cc)
    | inr a ↦ elim (cases_Bool (test l)) [
      | inl b ↦ full_by test (Waiting l left) _ (wait_passes r test l left a b) refl
      | inr b ↦ let g = told_by test (Waiting l left) _ (wait_fails r test l left a b) e in absurd (cc)
    ]
  ]
  lock_full test (Locked l left f) e = elim (cases_Bool (nat_lt 1 left)) [
    | inl a ↦ let g = told_by test (Locked l left f) _ (hold_early r test l left f a) e in absurd (cc)
    | inr a ↦ elim (cases_Bool (test l)) [
      | inl b ↦ let g = told_by test (Locked l left f) _ (hold_passes r test l left f a b) e in absurd (cc)
      | inr b ↦ elim (cases_Bool (nat_lt f 4)) [
        | inl c ↦ let g = told_by test (Locked l left f) _ (hold_counts r test l left f a b c) e in absurd (cc)
        | inr c ↦ let g = told_by test (Locked l left f) _ (hold_loses r test l left f a b c) e in absurd (cc)
      ]
    ]
  ]

  full_skew : (lock : Lock) → ticks_left lock ≡ full → skew full lock ≡ pos 0
  unfolding skew
  full_skew lock e = rw e (elim (cases_lt full (2 * full)) [
    | inl l ↦ let t = lt-ltb full (2 * full) l in rw t (omega (arith, ints))
    | inr l ↦ let t = le-ltb full (2 * full) l in rw t (ap pos (omega arith))
  ])

  pub lock_skew : (recent : List ℕ) (xs : List Lock) (k : ℕ) → k < length xs → event_at r recent xs k ≡ Locks → skew full (lock_at (locks_after r recent xs) k) ≡ pos 0
  unfolding event_at
  lock_skew recent xs k l e = full_skew _ (ap (λ (x : Lock). ticks_left x) (after_at r recent xs k l) ∙ lock_full (passes_at r recent k) (lock_at xs k) e)
