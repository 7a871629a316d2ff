-- What the lock machine does, tick by tick and over many. Assumes nothing.
use Rattle.std.specs.Prelude.{◌≡◌, ℕ, zero, suc, ◌+◌, ◌-◌, ◌*◌, ◌<◌, ◌≤◌, Bool, true, false, Some, None}
use Rattle.bits.specs.Lowest.{lowest}
use Rattle.lanes.specs.Rates.{Layout, marker_period}
use Rattle.lanes.specs.Locks.{next_lock, lock_event}
use Rattle.lanes.specs.declared.lock.Lock.{Lock}
use Rattle.lanes.specs.declared.lock.Lock.TheVariants.{Searching, Waiting, Locked}
use Rattle.lanes.specs.declared.lock.Event.{Event}
use Rattle.lanes.specs.declared.lock.Event.TheVariants.{Quiet, Waits, Locks, Fails, FifthFailure}

-- The state after n ticks. `test t` says for which lanes the window of tick t passes; the first tick is 1.
unfoldable pub after : Layout → (ℕ → ℕ → Bool) → Lock → ℕ → Lock
after r test lock zero = lock
after r test lock (suc n) = next_lock r (test (suc n)) (after r test lock n)

-- what tick n + 1 tells
unfoldable pub event_after : Layout → (ℕ → ℕ → Bool) → Lock → ℕ → Event
event_after r test lock n = lock_event r (test (n + 1)) (after r test lock n)

-- n ticks lead to a state, and tell nothing
abbrev pub Quietly : Layout → (ℕ → ℕ → Bool) → Lock → ℕ → Lock → Type 0
Quietly r test lock n to = (after r test lock n ≡ to) × ((t : ℕ) → t < n → event_after r test lock t ≡ Quiet)

-- n + 1 ticks lead to a state, and the last of them tells an event
abbrev pub Leads : Layout → (ℕ → ℕ → Bool) → Lock → ℕ → Lock → Event → Type 0
Leads r test lock n to event = (after r test lock (n + 1) ≡ to) × (event_after r test lock n ≡ event)

-- the test of a waiting position is due, and passes for its lane
abbrev pub Locking : (ℕ → Bool) → Lock → Type 0
Locking test Searching = ⊥
Locking test (Waiting l left) = (left ≤ 1) × (test l ≡ true)
Locking test (Locked l left failures) = ⊥

-- the test of a locked position is due, and fails with four failures standing
abbrev pub Losing : (ℕ → Bool) → Lock → Type 0
Losing test Searching = ⊥
Losing test (Waiting l left) = ⊥
Losing test (Locked l left failures) = (left ≤ 1) × (4 ≤ failures) × (test l ≡ false)

pub record LockRules (r : Layout) : Type 0 where
  -- A search goes on while no window passes. A pass makes it wait a period with that lane.
  pub searches : (test : ℕ → ℕ → Bool) (n : ℕ) → ((t : ℕ) → t < n → lowest (test (t + 1)) r.lanes ≡ None) → Quietly r test Searching n Searching
  pub waits : (test : ℕ → ℕ → Bool) (l : ℕ) → lowest (test 1) r.lanes ≡ Some l → Leads r test Searching 0 (Waiting l (marker_period r)) Waits
  -- Before the tick that is due nothing changes but the ticks to it, whatever the windows.
  pub stays_waiting : (test : ℕ → ℕ → Bool) (l left n : ℕ) → n < left → Quietly r test (Waiting l left) n (Waiting l (left - n))
  pub stays_locked : (test : ℕ → ℕ → Bool) (l left failures n : ℕ) → n < left → Quietly r test (Locked l left failures) n (Locked l (left - n) failures)
  -- On that tick a waiting position locks by a pass for its lane, and searches again by a failure.
  pub locks : (test : ℕ → ℕ → Bool) (l n : ℕ) → test (n + 1) l ≡ true → Leads r test (Waiting l (n + 1)) n (Locked l (marker_period r) 0) Locks
  pub resumes : (test : ℕ → ℕ → Bool) (l n : ℕ) → test (n + 1) l ≡ false → Leads r test (Waiting l (n + 1)) n Searching Fails
  -- A locked one clears its failures by a pass, counts a failure, and searches again by a fifth in a row.
  pub clears : (test : ℕ → ℕ → Bool) (l failures n : ℕ) → test (n + 1) l ≡ true → Leads r test (Locked l (n + 1) failures) n (Locked l (marker_period r) 0) Quiet
  pub counts : (test : ℕ → ℕ → Bool) (l failures n : ℕ) → failures < 4 → test (n + 1) l ≡ false →
      Leads r test (Locked l (n + 1) failures) n (Locked l (marker_period r) (failures + 1)) Fails
  pub loses : (test : ℕ → ℕ → Bool) (l failures n : ℕ) → 4 ≤ failures → test (n + 1) l ≡ false → Leads r test (Locked l (n + 1) failures) n Searching FifthFailure
  -- So from a lock on, up to four failures in a row stand, and the fifth is told four periods after the first.
  pub in_a_row : (test : ℕ → ℕ → Bool) (l k : ℕ) → k ≤ 4 → ((j : ℕ) → j < k → test (marker_period r * (j + 1)) l ≡ false) →
      after r test (Locked l (marker_period r) 0) (marker_period r * k) ≡ Locked l (marker_period r) k
  pub fifth : (test : ℕ → ℕ → Bool) (l n : ℕ) → ((j : ℕ) → j < 5 → test (marker_period r * (j + 1)) l ≡ false) → n + 1 ≡ marker_period r * 5 →
      Leads r test (Locked l (marker_period r) 0) n Searching FifthFailure
  -- A lock and a loss are told there alone.
  pub lock_told : (test : ℕ → Bool) (lock : Lock) → lock_event r test lock ≡ Locks → Locking test lock
  pub loss_told : (test : ℕ → Bool) (lock : Lock) → lock_event r test lock ≡ FifthFailure → Losing test lock
