-- Ticks that pend: those since the last on which a test was due. What a receiver keeps is how its positions stood then.
-- Assumes nothing.
use Rattle.std.specs.Prelude.{◌≡◌, ℕ, ◌-◌, ◌<◌, ◌≤◌, List, length, max, map}
use Rattle.lanes.specs.Rates.{Layout, marker_period}
use Rattle.lanes.specs.declared.lock.Lock.{Lock}
use Rattle.lanes.specs.declared.lock.Lock.TheVariants.{Searching, Waiting, Locked}
use Rattle.receiver.specs.Positions.{lock_at}
use Rattle.receiver.specs.Skews.{ticks_left}

-- a position n ticks later, none of which tests it
abbrev pub lock_later : ℕ → Lock → Lock
lock_later n Searching = Searching
lock_later n (Waiting l left) = Waiting l (left - n)
lock_later n (Locked l left failures) = Locked l (left - n) failures

abbrev pub locks_later : ℕ → List Lock → List Lock
locks_later n locks = map (lock_later n) locks

-- the ticks to a position's next test, at least one: a searching position is tested on each
abbrev pub ticks_to_test : Lock → ℕ
ticks_to_test lock = max (ticks_left lock) 1

-- There is a position for each lane. Fewer ticks pend than there are to the next test of any position, and no test is more
-- than a period away.
pub record Pends (r : Layout) (ticks due : ℕ) (locks : List Lock) : Type 0 where
  pub count : length locks ≡ r.lanes
  pub early : ticks < due
  pub tests : (i : ℕ) → i < length locks → due ≤ ticks_to_test (lock_at locks i)
  pub near : (i : ℕ) → i < length locks → ticks_left (lock_at locks i) ≤ marker_period r
