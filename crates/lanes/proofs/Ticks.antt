-- The lock machine over many ticks.
use Rattle.std.proofs.Common.{◌≡◌, ℕ, zero, suc, ◌+◌, ◌-◌, ◌*◌, ◌<◌, ◌≤◌, Bool, true, false, Some, None, Option, if◌then◌else◌, nat_lt, sym, refl, ap, ◌∙◌, add-zero, add-suc, mul-zero, add-one, subst, arith}
use Rattle.std.proofs.lemmas.Bool.{lt-ltb, le-ltb}
use Rattle.std.proofs.lemmas.Bool.Decides.{nat_tests}
use Rattle.bits.specs.Lowest.{lowest}
use Rattle.lanes.specs.Rates.{Layout, marker_period}
use Rattle.lanes.specs.Locks.{seen, turned, ticked, next_lock, lock_event}
use Rattle.lanes.specs.LockRules.{after, event_after, Quietly, Leads, Locking, Losing, LockRules}
use Rattle.lanes.specs.declared.lock.Lock.{Lock}
use Rattle.lanes.specs.declared.lock.Lock.TheVariants.{Searching, Waiting, Locked}
use Rattle.lanes.specs.declared.lock.Outcome.{Outcome}
use Rattle.lanes.specs.declared.lock.Outcome.TheVariants.{Failed, Passed}
use Rattle.lanes.specs.declared.lock.Event.{Event}
use Rattle.lanes.specs.declared.lock.Event.TheVariants.{Quiet, Waits, Locks, Fails, FifthFailure}

-- ticks of which the first a are over
abbrev pub later : ℕ → (ℕ → ℕ → Bool) → ℕ → ℕ → Bool
later a test t = test (a + t)

abbrev searched : ℕ → Option ℕ → Lock × Event
searched period o = turned period (seen o) Searching

-- a test that is due
abbrev tried : ℕ → Bool → Outcome
tried l b = if b then Passed l else Failed

module _ (r : Layout) where
  pub joined : (test : ℕ → ℕ → Bool) (lock : Lock) (a n : ℕ) → after r test lock (a + n) ≡ after r (later a test) (after r test lock a) n
  unfolding after
  joined test lock a zero = rw add-zero refl
  joined test lock a (suc n) = rw add-suc (rw (joined test lock a n) refl)

  -- what the last of n + 1 ticks makes of the state after n
  pub last_tick : (test : ℕ → ℕ → Bool) (lock before : Lock) (n : ℕ) (x : Lock × Event) →
      after r test lock n ≡ before → ticked r (test (n + 1)) before ≡ x → Leads r test lock n x.0 x.1
  unfolding after event_after
  last_tick test lock before n x e f =
      let next : next_lock r (test (n + 1)) (after r test lock n) ≡ x.0 = ap (next_lock r (test (n + 1))) e ∙ ap (λ (y : Lock × Event). y.0) f in (
        ap (after r test lock) (add-one n) ∙ ap (λ (k : ℕ). next_lock r (test k) (after r test lock n)) (sym (add-one n)) ∙ next,
        ap (lock_event r (test (n + 1))) e ∙ ap (λ (y : Lock × Event). y.1) f,
      )

  one_tick : (test : ℕ → ℕ → Bool) (lock before : Lock) (n : ℕ) (x : Lock × Event) →
      after r test lock n ≡ before → ticked r (test (n + 1)) before ≡ x → event_after r test lock n ≡ x.1
  one_tick test lock before n x e f = (last_tick test lock before n x e f).1

  -- a search
  search_tick : (test : ℕ → Bool) (o : Option ℕ) → lowest test r.lanes ≡ o → ticked r test Searching ≡ searched (marker_period r) o
  unfolding ticked
  search_tick test o e = ap (searched (marker_period r)) e

  searching : (test : ℕ → ℕ → Bool) (n : ℕ) → ((t : ℕ) → t < n → lowest (test (t + 1)) r.lanes ≡ None) → after r test Searching n ≡ Searching
  unfolding after
  searching test zero e = refl
  searching test (suc n) e =
      ap (after r test Searching) (sym (add-one n))
      ∙ (last_tick test Searching Searching n (Searching, Quiet) (searching test n (λ t b. e t (omega arith))) (search_tick (test (n + 1)) None (e n (omega arith)))).0

  -- a test that is not yet due, and one that is
  wait_early : (test : ℕ → Bool) (l left : ℕ) → 1 < left → ticked r test (Waiting l left) ≡ (Waiting l (left - 1), Quiet)
  unfolding ticked
  wait_early test l left h = rw (lt-ltb 1 left h) refl

  hold_early : (test : ℕ → Bool) (l left f : ℕ) → 1 < left → ticked r test (Locked l left f) ≡ (Locked l (left - 1) f, Quiet)
  unfolding ticked
  hold_early test l left f h = rw (lt-ltb 1 left h) refl

  abbrev waited : ℕ → Bool → Lock × Event
  waited l b = if b then (Locked l (marker_period r) 0, Locks) else (Searching, Fails)

  abbrev failed : ℕ → ℕ → Bool → Lock × Event
  failed l f few = if few then (Locked l (marker_period r) (f + 1), Fails) else (Searching, FifthFailure)

  abbrev held : ℕ → ℕ → Bool → Lock × Event
  held l f b = if b then (Locked l (marker_period r) 0, Quiet) else failed l f (nat_lt f 4)

  waited_is : (l left : ℕ) (b : Bool) → turned (marker_period r) (tried l b) (Waiting l left) ≡ waited l b
  waited_is l left true = refl
  waited_is l left false = refl

  held_is : (l left f : ℕ) (b : Bool) → turned (marker_period r) (tried l b) (Locked l left f) ≡ held l f b
  held_is l left f true = refl
  held_is l left f false = refl

  wait_due : (test : ℕ → Bool) (l left : ℕ) → left ≤ 1 → ticked r test (Waiting l left) ≡ waited l (test l)
  unfolding ticked
  wait_due test l left h = rw (le-ltb 1 left h) (waited_is l left (test l))

  hold_due : (test : ℕ → Bool) (l left f : ℕ) → left ≤ 1 → ticked r test (Locked l left f) ≡ held l f (test l)
  unfolding ticked
  hold_due test l left f h = rw (le-ltb 1 left h) (held_is l left f (test l))

  waiting : (test : ℕ → ℕ → Bool) (l left n : ℕ) → n < left → after r test (Waiting l left) n ≡ Waiting l (left - n)
  unfolding after ticked
  waiting test l left zero h = grind arith
  waiting test l left (suc n) h = grind (arith, nat_tests, waiting test l left n)

  holding : (test : ℕ → ℕ → Bool) (l left f n : ℕ) → n < left → after r test (Locked l left f) n ≡ Locked l (left - n) f
  unfolding after ticked
  holding test l left f zero h = grind arith
  holding test l left f (suc n) h = grind (arith, nat_tests, holding test l left f n)

  pub stays_waiting : (test : ℕ → ℕ → Bool) (l left n : ℕ) → n < left → Quietly r test (Waiting l left) n (Waiting l (left - n))
  stays_waiting test l left n h = (
    waiting test l left n h,
    λ t b. one_tick test (Waiting l left) (Waiting l (left - t)) t (Waiting l (left - t - 1), Quiet)
        (waiting test l left t (omega arith)) (wait_early (test (t + 1)) l (left - t) (omega arith)),
  )

  pub stays_locked : (test : ℕ → ℕ → Bool) (l left f n : ℕ) → n < left → Quietly r test (Locked l left f) n (Locked l (left - n) f)
  stays_locked test l left f n h = (
    holding test l left f n h,
    λ t b. one_tick test (Locked l left f) (Locked l (left - t) f) t (Locked l (left - t - 1) f, Quiet)
        (holding test l left f t (omega arith)) (hold_early (test (t + 1)) l (left - t) f (omega arith)),
  )

  one_left : (n : ℕ) → n + 1 - n ≡ 1
  one_left n = omega arith

  wait_over : (test : ℕ → ℕ → Bool) (l n : ℕ) (b : Bool) → test (n + 1) l ≡ b → Leads r test (Waiting l (n + 1)) n (waited l b).0 (waited l b).1
  wait_over test l n b e =
      last_tick test (Waiting l (n + 1)) (Waiting l 1) n (waited l b)
      (waiting test l (n + 1) n (omega arith) ∙ ap (Waiting l) (one_left n)) (wait_due (test (n + 1)) l 1 (omega arith) ∙ ap (waited l) e)

  hold_over : (test : ℕ → ℕ → Bool) (l f n : ℕ) (x : Lock × Event) → held l f (test (n + 1) l) ≡ x → Leads r test (Locked l (n + 1) f) n x.0 x.1
  hold_over test l f n x e =
      last_tick test (Locked l (n + 1) f) (Locked l 1 f) n x
      (holding test l (n + 1) f n (omega arith) ∙ ap (λ (k : ℕ). Locked l k f) (one_left n)) (hold_due (test (n + 1)) l 1 f (omega arith) ∙ e)

  fewer : (l f : ℕ) (b few : Bool) → b ≡ false → nat_lt f 4 ≡ few → held l f b ≡ failed l f few
  fewer l f b few e h = ap (held l f) e ∙ ap (failed l f) h

  counts : (test : ℕ → ℕ → Bool) (l f n : ℕ) → f < 4 → test (n + 1) l ≡ false → Leads r test (Locked l (n + 1) f) n (Locked l (marker_period r) (f + 1)) Fails
  counts test l f n h e = hold_over test l f n (failed l f true) (fewer l f (test (n + 1) l) true e (lt-ltb f 4 h))

  loses : (test : ℕ → ℕ → Bool) (l f n : ℕ) → 4 ≤ f → test (n + 1) l ≡ false → Leads r test (Locked l (n + 1) f) n Searching FifthFailure
  loses test l f n h e = hold_over test l f n (failed l f false) (fewer l f (test (n + 1) l) false e (le-ltb f 4 h))

  -- where a lock and a loss are told
  no_lock : (o : Option ℕ) → (searched (marker_period r) o).1 ≡ Locks → ⊥
  no_lock None e = cc
  no_lock (Some l) e = cc

  no_loss : (o : Option ℕ) → (searched (marker_period r) o).1 ≡ FifthFailure → ⊥
  no_loss None e = cc
  no_loss (Some l) e = cc

  lock_told : (test : ℕ → Bool) (lock : Lock) → lock_event r test lock ≡ Locks → Locking test lock
  unfolding ticked
  lock_told test Searching e = no_lock (lowest test r.lanes) e
  lock_told test (Waiting l left) e = grind (arith, nat_tests)
  lock_told test (Locked l left f) e = grind (arith, nat_tests)

  loss_told : (test : ℕ → Bool) (lock : Lock) → lock_event r test lock ≡ FifthFailure → Losing test lock
  unfolding ticked
  loss_told test Searching e = no_loss (lowest test r.lanes) e
  loss_told test (Waiting l left) e = grind (arith, nat_tests)
  loss_told test (Locked l left f) e = grind (arith, nat_tests)

one_more : (p k : ℕ) → p * suc k ≡ p * k + p
one_more p k = omega arith

positive : (A : ℕ → Type 0) (p : ℕ) → 0 < p → ((n : ℕ) → A (n + 1)) → A p
positive A zero h f = absurd (omega arith)
positive A (suc n) h f = subst A (add-one n) (f n)

module _ (r : Layout) (long : 0 < marker_period r) where
  abbrev period : ℕ
  period = marker_period r

  a_failure : (test : ℕ → ℕ → Bool) (l f : ℕ) → f < 4 → test period l ≡ false → after r test (Locked l period f) period ≡ Locked l period (f + 1)
  a_failure test l f h = positive (λ p. test p l ≡ false → after r test (Locked l p f) p ≡ Locked l period (f + 1)) period long (λ n e. (counts r test l f n h e).0)

  in_a_row : (test : ℕ → ℕ → Bool) (l k : ℕ) → k ≤ 4 → ((j : ℕ) → j < k → test (period * (j + 1)) l ≡ false) → after r test (Locked l period 0) (period * k) ≡ Locked l period k
  unfolding after
  in_a_row test l zero h e = rw mul-zero refl
  in_a_row test l (suc k) h e =
      let n : period * suc k ≡ period * k + period = one_more period k in
      let t : test (period * k + period) l ≡ false = ap (λ (t : ℕ). test t l) (sym n ∙ ap (λ (i : ℕ). period * i) (sym (add-one k))) ∙ e k (omega arith) in
      ap (after r test (Locked l period 0)) n
      ∙ joined r test (Locked l period 0) (period * k) period
      ∙ ap (λ (s : Lock). after r (later (period * k) test) s period) (in_a_row test l k (omega arith) (λ j b. e j (omega arith)))
      ∙ a_failure (later (period * k) test) l k (omega arith) t ∙ ap (Locked l period) (add-one k)

  last_hold : (test : ℕ → ℕ → Bool) (l f : ℕ) → after r test (Locked l period f) (period - 1) ≡ Locked l 1 f
  last_hold test l f =
      let e : period - (period - 1) ≡ 1 = omega arith in
      (stays_locked r test l period f (period - 1) (omega arith)).0 ∙ ap (λ (k : ℕ). Locked l k f) e

  fifth : (test : ℕ → ℕ → Bool) (l n : ℕ) → ((j : ℕ) → j < 5 → test (period * (j + 1)) l ≡ false) → n + 1 ≡ period * 5 →
      Leads r test (Locked l period 0) n Searching FifthFailure
  fifth test l n e h =
      let s : n ≡ period * 4 + (period - 1) = omega arith in
      let t : test (n + 1) l ≡ false = ap (λ (t : ℕ). test t l) h ∙ e 4 (omega arith) in
      let here : after r test (Locked l period 0) n ≡ Locked l 1 4 =
      ap (after r test (Locked l period 0)) s
      ∙ joined r test (Locked l period 0) (period * 4) (period - 1)
      ∙ ap (λ (s : Lock). after r (later (period * 4) test) s (period - 1)) (in_a_row test l 4 (omega arith) (λ j b. e j (omega arith)))
      ∙ last_hold (later (period * 4) test) l 4 in
      last_tick r test (Locked l period 0) (Locked l 1 4) n (Searching, FifthFailure) here (hold_due r (test (n + 1)) l 1 4 (omega arith) ∙ ap (held r l 4) t)

  searches : (test : ℕ → ℕ → Bool) (n : ℕ) → ((t : ℕ) → t < n → lowest (test (t + 1)) r.lanes ≡ None) → Quietly r test Searching n Searching
  searches test n e = (
    searching r test n e,
    λ t b. one_tick r test Searching Searching t (Searching, Quiet) (searching r test t (λ u c. e u (omega arith))) (search_tick r (test (t + 1)) None (e t b)),
  )

  waits : (test : ℕ → ℕ → Bool) (l : ℕ) → lowest (test 1) r.lanes ≡ Some l → Leads r test Searching 0 (Waiting l period) Waits
  unfolding after
  waits test l e = last_tick r test Searching Searching 0 (Waiting l period, Waits) refl (search_tick r (test 1) (Some l) e)

  pub rules_hold : LockRules r
  rules_hold = record {
    searches = searches;
    waits = waits;
    stays_waiting = stays_waiting r;
    stays_locked = stays_locked r;
    locks = λ test l n. wait_over r test l n true;
    resumes = λ test l n. wait_over r test l n false;
    clears = λ test l f n e. hold_over r test l f n (Locked l period 0, Quiet) (ap (held r l f) e);
    counts = counts r;
    loses = loses r;
    in_a_row = in_a_row;
    fifth = fifth;
    lock_told = lock_told r;
    loss_told = loss_told r;
  }
