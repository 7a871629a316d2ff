-- What a tick does to a position whose test is not due, and the ticks to a position's next test.
use Rattle.std.proofs.Common.{◌≡◌, ℕ, ◌+◌, ◌-◌, ◌<◌, ◌≤◌, Bool, true, false, Ok, Err, Result, Some, None, Option, refl, ap, ◌∙◌, sym, inl, inr, arith}
use Rattle.std.specs.Prelude.{if◌then◌else◌, nat_lt}
use Rattle.std.proofs.lemmas.Bool.{lt-ltb, cases_Bool}
use Rattle.bits.specs.Lowest.{lowest}
use Rattle.lanes.specs.Rates.{Layout, marker_period}
use Rattle.lanes.specs.Faults.{or_fault, five_failed}
use Rattle.lanes.specs.Locks.{seen, turned, ticked, next_lock, lock_event}
use Rattle.lanes.specs.declared.fault.Fault.{Fault}
use Rattle.lanes.specs.declared.lock.Lock.{Lock}
use Rattle.lanes.specs.declared.lock.Lock.TheVariants.{Searching, Waiting, Locked}
use Rattle.lanes.specs.declared.lock.Event.{Event}
use Rattle.lanes.specs.declared.lock.Event.TheVariants.{Quiet, Waits, Locks, Fails, FifthFailure}
use Rattle.receiver.specs.Pending.{lock_later, ticks_to_test}
use Rattle.receiver.specs.Positions.{is_fifth_failure}
use Rattle.receiver.specs.Skews.{ticks_left}

-- what a search makes of the lane that it finds
abbrev pub searched : ℕ → Option ℕ → Lock × Event
searched period o = turned period (seen o) Searching

abbrev Outcome : Type 0
Outcome = Lock × Event

module _ (r : Layout) where
  -- what passes does not matter
  unread : (test other : ℕ → Bool) (lock : Lock) → 1 < ticks_left lock → ticked r test lock ≡ ticked r other lock
  unfolding ticked
  unread test other Searching h = absurd (omega arith)
  unread test other (Waiting l left) h = let e = lt-ltb 1 left h in rw e refl
  unread test other (Locked l left f) h = let e = lt-ltb 1 left h in rw e refl

  pub unread_lock : (test other : ℕ → Bool) (lock : Lock) → 1 < ticks_left lock → next_lock r test lock ≡ next_lock r other lock
  unread_lock test other lock h = ap (λ (p : Outcome). p.0) (unread test other lock h)

  pub unread_event : (test other : ℕ → Bool) (lock : Lock) → 1 < ticks_left lock → lock_event r test lock ≡ lock_event r other lock
  unread_event test other lock h = ap (λ (p : Outcome). p.1) (unread test other lock h)

  quiet : (test : ℕ → Bool) (n : ℕ) (lock : Lock) → n + 1 < ticks_to_test lock → ticked r test (lock_later n lock) ≡ (lock_later (n + 1) lock, Quiet)
  unfolding ticked
  quiet test n Searching h = absurd (omega arith)
  quiet test n (Waiting l left) h =
      let e = lt-ltb 1 (left - n) (omega arith) in
      let d : left - n - 1 ≡ left - (n + 1) = omega arith in
      rw (e, d) refl
  quiet test n (Locked l left f) h =
      let e = lt-ltb 1 (left - n) (omega arith) in
      let d : left - n - 1 ≡ left - (n + 1) = omega arith in
      rw (e, d) refl

  pub quiet_lock : (test : ℕ → Bool) (n : ℕ) (lock : Lock) → n + 1 < ticks_to_test lock → next_lock r test (lock_later n lock) ≡ lock_later (n + 1) lock
  quiet_lock test n lock h = ap (λ (p : Outcome). p.0) (quiet test n lock h)

  pub quiet_event : (test : ℕ → Bool) (n : ℕ) (lock : Lock) → n + 1 < ticks_to_test lock → lock_event r test (lock_later n lock) ≡ Quiet
  quiet_event test n lock h = ap (λ (p : Outcome). p.1) (quiet test n lock h)

  abbrev period : ℕ
  period = marker_period r

  searched_near : (o : Option ℕ) → ticks_left (searched period o).0 ≤ period
  searched_near None = omega arith
  searched_near (Some l) = omega arith

  -- what each test makes of a position
  pub wait_early : (test : ℕ → Bool) (l left : ℕ) → nat_lt 1 left ≡ true → ticked r test (Waiting l left) ≡ (Waiting l (left - 1), Quiet)
  unfolding ticked
  wait_early test l left a = rw a refl

  pub wait_passes : (test : ℕ → Bool) (l left : ℕ) → nat_lt 1 left ≡ false → test l ≡ true → ticked r test (Waiting l left) ≡ (Locked l period 0, Locks)
  unfolding ticked
  wait_passes test l left a b = rw (a, b) refl

  pub wait_fails : (test : ℕ → Bool) (l left : ℕ) → nat_lt 1 left ≡ false → test l ≡ false → ticked r test (Waiting l left) ≡ (Searching, Fails)
  unfolding ticked
  wait_fails test l left a b = rw (a, b) refl

  pub hold_early : (test : ℕ → Bool) (l left f : ℕ) → nat_lt 1 left ≡ true → ticked r test (Locked l left f) ≡ (Locked l (left - 1) f, Quiet)
  unfolding ticked
  hold_early test l left f a = rw a refl

  pub hold_passes : (test : ℕ → Bool) (l left f : ℕ) → nat_lt 1 left ≡ false → test l ≡ true → ticked r test (Locked l left f) ≡ (Locked l period 0, Quiet)
  unfolding ticked
  hold_passes test l left f a b = rw (a, b) refl

  pub hold_counts : (test : ℕ → Bool) (l left f : ℕ) → nat_lt 1 left ≡ false → test l ≡ false → nat_lt f 4 ≡ true → ticked r test (Locked l left f) ≡ (Locked l period (f + 1), Fails)
  unfolding ticked
  hold_counts test l left f a b c = rw (a, b, c) refl

  pub hold_loses : (test : ℕ → Bool) (l left f : ℕ) → nat_lt 1 left ≡ false → test l ≡ false → nat_lt f 4 ≡ false → ticked r test (Locked l left f) ≡ (Searching, FifthFailure)
  unfolding ticked
  hold_loses test l left f a b c = rw (a, b, c) refl

  near_by : (test : ℕ → Bool) (lock : Lock) (x : Outcome) → ticked r test lock ≡ x → ticks_left x.0 ≤ period → ticks_left (next_lock r test lock) ≤ period
  near_by test lock x e h = let g = ap (λ (y : Outcome). ticks_left y.0) e in omega (arith, g)

  pub searches : (test : ℕ → Bool) → ticked r test Searching ≡ searched period (lowest test r.lanes)
  unfolding ticked
  searches test = refl

  -- no test is more than a period away
  pub next_near : (test : ℕ → Bool) (lock : Lock) → ticks_left lock ≤ period → ticks_left (next_lock r test lock) ≤ period
  next_near test Searching h = near_by test Searching _ (searches test) (searched_near (lowest test r.lanes))
  next_near test (Waiting l left) h = elim (cases_Bool (nat_lt 1 left)) [
    | inl a ↦ near_by test (Waiting l left) _ (wait_early test l left a) (omega arith)
    | inr a ↦ elim (cases_Bool (test l)) [
      | inl b ↦ near_by test (Waiting l left) _ (wait_passes test l left a b) (omega arith)
      | inr b ↦ near_by test (Waiting l left) _ (wait_fails test l left a b) (omega arith)
    ]
  ]
  next_near test (Locked l left f) h = elim (cases_Bool (nat_lt 1 left)) [
    | inl a ↦ near_by test (Locked l left f) _ (hold_early test l left f a) (omega arith)
    | inr a ↦ elim (cases_Bool (test l)) [
      | inl b ↦ near_by test (Locked l left f) _ (hold_passes test l left f a b) (omega arith)
      | inr b ↦ elim (cases_Bool (nat_lt f 4)) [
        | inl c ↦ near_by test (Locked l left f) _ (hold_counts test l left f a b c) (omega arith)
        | inr c ↦ near_by test (Locked l left f) _ (hold_loses test l left f a b c) (omega arith)
      ]
    ]
  ]

pub later_near : (n P : ℕ) (lock : Lock) → ticks_left lock ≤ P → ticks_left (lock_later n lock) ≤ P
later_near n P Searching h = h
later_near n P (Waiting l left) h = omega arith
later_near n P (Locked l left f) h = omega arith

pub later_none : (lock : Lock) → lock_later 0 lock ≡ lock
later_none Searching = refl
later_none (Waiting l left) = ap (Waiting l) (omega arith)
later_none (Locked l left f) = ap (λ (k : ℕ). Locked l k f) (omega arith)

-- the fifth failure is a fault, and nothing else is
pub fault_err : (event : Event) (position ticks : ℕ) (e : Fault) → or_fault event position ticks ≡ Err e → (is_fifth_failure event ≡ true) × (e ≡ five_failed position ticks)
fault_err Quiet p t e h = absurd (cc)
fault_err Waits p t e h = absurd (cc)
fault_err Locks p t e h = absurd (cc)
fault_err Fails p t e h = absurd (cc)
fault_err FifthFailure p t e h = (refl, cc)

pub fault_ok : (event : Event) (position ticks : ℕ) (same : Event) → or_fault event position ticks ≡ Ok same → (is_fifth_failure event ≡ false) × (same ≡ event)
fault_ok Quiet p t e h = (refl, cc)
fault_ok Waits p t e h = (refl, cc)
fault_ok Locks p t e h = (refl, cc)
fault_ok Fails p t e h = (refl, cc)
fault_ok FifthFailure p t e h = absurd (cc)
