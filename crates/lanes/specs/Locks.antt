-- The lock machine of one position. Assumes nothing.
use Rattle.std.specs.Prelude.{ℕ, ◌+◌, ◌-◌, Bool, false, if◌then◌else◌, Some, None, Option, nat_lt}
use Rattle.bits.specs.Lowest.{lowest}
use Rattle.lanes.specs.Rates.{Layout, marker_period}
use Rattle.lanes.specs.Markers.{passes}
use Rattle.lanes.specs.declared.lock.Lock.{Lock}
use Rattle.lanes.specs.declared.lock.Lock.TheVariants.{Searching, Waiting, Locked}
use Rattle.lanes.specs.declared.lock.Outcome.{Outcome}
use Rattle.lanes.specs.declared.lock.Outcome.TheVariants.{Untested, Failed, Passed}
use Rattle.lanes.specs.declared.lock.Event.{Event}
use Rattle.lanes.specs.declared.lock.Event.TheVariants.{Quiet, Waits, Locks, Fails, FifthFailure}

-- for which lanes a tick's window passes; for none where there is no window
abbrev pub tested : Layout → Option ℕ → ℕ → Bool
tested r None = λ l. false
tested r (Some window) = passes r window

-- The test of a position on a tick; `test l` says that its window passes for lane l. A searching position tests for every
-- lane on each tick; the others for their own, where at most one tick is left.
abbrev pub seen : Option ℕ → Outcome
seen None = Failed
seen (Some l) = Passed l

abbrev pub due : (ℕ → Bool) → ℕ → ℕ → Outcome
due test l left = if nat_lt 1 left then Untested else (if test l then Passed l else Failed)

abbrev pub outcome : Layout → (ℕ → Bool) → Lock → Outcome
outcome r test Searching = seen (lowest test r.lanes)
outcome r test (Waiting l left) = due test l left
outcome r test (Locked l left failures) = due test l left

-- What the outcome makes of a position, and what is told. The next test of a lane is a period away.
abbrev pub turned : ℕ → Outcome → Lock → Lock × Event
turned period Untested Searching = (Searching, Quiet)
turned period Failed Searching = (Searching, Quiet)
turned period (Passed l) Searching = (Waiting l period, Waits)
turned period Untested (Waiting l left) = (Waiting l (left - 1), Quiet)
turned period Failed (Waiting l left) = (Searching, Fails)
turned period (Passed m) (Waiting l left) = (Locked l period 0, Locks)
turned period Untested (Locked l left failures) = (Locked l (left - 1) failures, Quiet)
turned period Failed (Locked l left failures) = if nat_lt failures 4 then (Locked l period (failures + 1), Fails) else (Searching, FifthFailure)
turned period (Passed m) (Locked l left failures) = (Locked l period 0, Quiet)

unfoldable pub ticked : Layout → (ℕ → Bool) → Lock → Lock × Event
ticked r test lock = turned (marker_period r) (outcome r test lock) lock

abbrev pub next_lock : Layout → (ℕ → Bool) → Lock → Lock
next_lock r test lock = (ticked r test lock).0

abbrev pub lock_event : Layout → (ℕ → Bool) → Lock → Event
lock_event r test lock = (ticked r test lock).1
