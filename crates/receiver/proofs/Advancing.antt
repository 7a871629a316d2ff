-- The positions on a tick, with the ticks that pend.
use Rattle.std.proofs.Common.{◌≡◌, ℕ, ◌+◌, ◌<◌, ◌≤◌, Ok, Err, Some, None, Option, Result, List, length, map, get_or, sym, refl, ap, ◌∙◌, subst, arith}
use Rattle.std.proofs.Math.ListN.{get_or-map}
use Rattle.std.proofs.lemmas.List.{length-map}
use Rattle.lanes.specs.Faults.{five_failed}
use Rattle.lanes.specs.Locks.{next_lock, lock_event}
use Rattle.lanes.specs.Rates.{Layout, marker_period}
use Rattle.lanes.specs.declared.fault.Fault.{Fault as LaneFault}
use Rattle.lanes.specs.declared.lock.Lock.{Lock}
use Rattle.lanes.specs.declared.lock.Lock.TheVariants.{Searching}
use Rattle.receiver.specs.Hunts.{judged, last_lock}
use Rattle.receiver.specs.Pending.{lock_later, locks_later}
use Rattle.receiver.specs.Positions.{each, passes_at, locks_after, event_at, failed_five, just_locked, lock_at}
use Rattle.receiver.specs.Skews.{ticks_left}
use Rattle.receiver.specs.declared.fault.Fault.{Fault}
use Rattle.receiver.specs.declared.fault.Fault.TheVariants.{Lanes, Alignment}
use Rattle.receiver.specs.declared.fault.Misaligned.{Misaligned}
use Rattle.receiver.specs.declared.told.Told.{Told}
use Rattle.receiver.proofs.Moving.{each-map, length-each, at-each}
use Rattle.receiver.proofs.Quiet.{next_near, later_near}

pub later_at : (n : ℕ) (xs : List Lock) (i : ℕ) → lock_at (locks_later n xs) i ≡ lock_later n (lock_at xs i)
later_at n xs i = get_or-map (lock_later n) xs i Searching

pub length-later : (n : ℕ) (xs : List Lock) → length (locks_later n xs) ≡ length xs
length-later n xs = length-map xs (lock_later n)

module _ (r : Layout) (recent : List ℕ) where
  pub length-after : (xs : List Lock) → length (locks_after r recent xs) ≡ length xs
  unfolding locks_after
  length-after xs = length-each _ xs

  pub after_at : (xs : List Lock) (i : ℕ) → i < length xs → lock_at (locks_after r recent xs) i ≡ next_lock r (passes_at r recent i) (lock_at xs i)
  unfolding locks_after
  after_at xs i h = at-each (λ i lock. next_lock r (passes_at r recent i) lock) xs i Searching Searching h

  module _ (n : ℕ) (xs : List Lock) where
    pub moved_later : each (λ i lock. next_lock r (passes_at r recent i) (lock_later n lock)) xs ≡ locks_after r recent (locks_later n xs)
    unfolding locks_after
    moved_later = sym (each-map (λ i lock. next_lock r (passes_at r recent i) lock) (lock_later n) xs)

    pub event_later : (i : ℕ) → lock_event r (passes_at r recent i) (lock_later n (lock_at xs i)) ≡ event_at r recent (locks_later n xs) i
    unfolding event_at
    event_later i = ap (lock_event r (passes_at r recent i)) (sym (later_at n xs i))

    -- no test is more than a period away
    pub after_near : ((i : ℕ) → i < length xs → ticks_left (lock_at xs i) ≤ marker_period r) → (i : ℕ) → i < length xs → ticks_left (lock_at (locks_after r recent (locks_later n xs)) i) ≤ marker_period r
    after_near near i h =
        let l : i < length (locks_later n xs) = omega (arith, length-later n xs) in
        rw (after_at (locks_later n xs) i l) (rw (later_at n xs i) (next_near r (passes_at r recent i) (lock_later n (lock_at xs i)) (later_near n (marker_period r) (lock_at xs i) (near i h))))

  pub judged_five : (locks : List Lock) (ticks position : ℕ) (e : LaneFault) → failed_five r recent locks ≡ Some position → e ≡ five_failed position ticks → ◌≡◌ {A = Result Told Fault} (Err (Lanes e)) (judged r recent locks ticks)
  unfolding judged
  judged_five locks ticks position e f d = rw (f, d) refl

  module _ (locks : List Lock) (ticks : ℕ) (none : failed_five r recent locks ≡ None) where
    pub judged_err : (e : Misaligned) → last_lock (marker_period r) (locks_after r recent locks) ticks (just_locked r recent locks) ≡ Err e → ◌≡◌ {A = Result Told Fault} (Err (Alignment e)) (judged r recent locks ticks)
    unfolding judged
    judged_err e d = rw (none, d) refl

    pub judged_ok : (t : Told) → last_lock (marker_period r) (locks_after r recent locks) ticks (just_locked r recent locks) ≡ Ok t → ◌≡◌ {A = Result Told Fault} (Ok t) (judged r recent locks ticks)
    unfolding judged
    judged_ok t d = rw (none, d) refl
