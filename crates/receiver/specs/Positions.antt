-- The positions of a receiver on a tick: each is moved by its own window. Assumes nothing.
use Rattle.std.specs.Prelude.{ℕ, suc, Bool, true, false, not, ◌&&◌, List, [], ◌∷◌, length, is_some, Option, ◌==◌, slice_index_or}
use Rattle.bits.specs.Lowest.{lowest}
use Rattle.lanes.specs.Locks.{tested, next_lock, lock_event}
use Rattle.lanes.specs.Rates.{Layout}
use Rattle.lanes.specs.declared.lock.Lock.{Lock}
use Rattle.lanes.specs.declared.lock.Lock.TheVariants.{Searching, Waiting, Locked}
use Rattle.lanes.specs.declared.lock.Event.{Event}
use Rattle.lanes.specs.declared.lock.Event.TheVariants.{Quiet, Waits, Locks, Fails, FifthFailure}
use Rattle.receiver.specs.Recent.{window}

-- f 0 x, f 1 y and so on
unfoldable pub each : {A B : Type 0} → (ℕ → A → B) → List A → List B
each f [] = []
each f (x ∷ xs) = f 0 x ∷ each (λ i. f (suc i)) xs

abbrev pub lock_at : List Lock → ℕ → Lock
lock_at locks i = slice_index_or locks i Searching

-- for which lanes the window of position i passes
abbrev pub passes_at : Layout → List ℕ → ℕ → ℕ → Bool
passes_at r recent i = tested r (window recent i)

-- the positions after a tick, whose word is the newest heard
unfoldable pub locks_after : Layout → List ℕ → List Lock → List Lock
locks_after r recent locks = each (λ i lock. next_lock r (passes_at r recent i) lock) locks

-- what the tick did to position i
unfoldable pub event_at : Layout → List ℕ → List Lock → ℕ → Event
event_at r recent locks i = lock_event r (passes_at r recent i) (lock_at locks i)

abbrev pub is_fifth_failure : Event → Bool
is_fifth_failure Quiet = false
is_fifth_failure Waits = false
is_fifth_failure Locks = false
is_fifth_failure Fails = false
is_fifth_failure FifthFailure = true

abbrev pub is_lock : Event → Bool
is_lock Quiet = false
is_lock Waits = false
is_lock Locks = true
is_lock Fails = false
is_lock FifthFailure = false

-- the lowest position with five failed markers in a row
unfoldable pub failed_five : Layout → List ℕ → List Lock → Option ℕ
failed_five r recent locks = lowest (λ i. is_fifth_failure (event_at r recent locks i)) (length locks)

-- the lowest position that locks on this tick
unfoldable pub just_locked : Layout → List ℕ → List Lock → Option ℕ
just_locked r recent locks = lowest (λ i. is_lock (event_at r recent locks i)) (length locks)

abbrev pub is_locked : Lock → Bool
is_locked Searching = false
is_locked (Waiting l left) = false
is_locked (Locked l left failures) = true

-- the lane of a position, 0 where it has none
abbrev pub lane_of : Lock → ℕ
lane_of Searching = 0
lane_of (Waiting l left) = l
lane_of (Locked l left failures) = l

-- position j is not i, and has its lane
abbrev pub is_twin : List Lock → ℕ → ℕ → Bool
is_twin locks j i = not (j == i) && lane_of (lock_at locks j) == lane_of (lock_at locks i)

-- another position has the lane of position i
unfoldable pub shares_lane : List Lock → ℕ → Bool
shares_lane locks i = is_some (lowest (λ j. is_twin locks j i) (length locks))

-- the lowest position that shares its lane
unfoldable pub lane_shared : List Lock → Option ℕ
lane_shared locks = lowest (shares_lane locks) (length locks)
