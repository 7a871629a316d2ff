-- A hunting receiver: what it keeps, and what a tick makes of it. Assumes nothing.
use Rattle.std.specs.Prelude.{ℕ, Bool, true, false, if◌then◌else◌, List, [], ◌∷◌, replicate, length, Some, None, Ok, Err, Option, Result, ◌&&◌, nat_lt, ℤ}
use Rattle.std.specs.List.{list_all}
use Rattle.std.specs.Option.{option_map}
use Rattle.lanes.specs.Rates.{Layout, marker_period}
use Rattle.lanes.specs.declared.lock.Lock.{Lock}
use Rattle.lanes.specs.declared.lock.Lock.TheVariants.{Searching}
use Rattle.receiver.specs.Counts.{one_more}
use Rattle.receiver.specs.Faults.{five_failures, lane_twice, too_much_skew}
use Rattle.receiver.specs.Positions.{locks_after, failed_five, just_locked, is_locked, lane_of, lane_shared, lock_at}
use Rattle.receiver.specs.Recent.{heard}
use Rattle.receiver.specs.Refusals.{accepted_word}
use Rattle.receiver.specs.Skews.{skew, too_wide}
use Rattle.receiver.specs.declared.fault.Misaligned.{Misaligned}
use Rattle.receiver.specs.declared.fault.Fault.{Fault}
use Rattle.receiver.specs.declared.fault.Fault.TheVariants.{Alignment}
use Rattle.receiver.specs.declared.told.Told.{Told}
use Rattle.receiver.specs.declared.told.Told.TheVariants.{Quiet, Ready, Setback}
use Rattle.receiver.specs.declared.refusal.Refusal.{Refusal}

-- What a hunting receiver keeps: the words heard of late, newest first; how each position stands; the accepted ticks of
-- this hunt, a count that stops at its top; and whether it is ready.
pub record Hunt : Type 0 where
  pub recent : List ℕ
  pub locks : List Lock
  pub ticks : ℕ
  pub ready : Bool

-- made, or hunting afresh: it starts empty
abbrev pub fresh : Layout → Hunt
fresh r = record { recent = []; locks = replicate r.lanes Searching; ticks = 0; ready = false }

-- Of positions that are all locked, `just` being the lowest just locked: a lane twice comes before too much skew.
abbrev pub lane_twice_or : ℕ → Result Told Misaligned → Option ℕ → Result Told Misaligned
lane_twice_or ticks otherwise (Some i) = Err (lane_twice i ticks)
lane_twice_or ticks otherwise None = otherwise

unfoldable pub aligned_told : ℕ → List Lock → ℕ → ℕ → Result Told Misaligned
aligned_told period locks ticks just =
    lane_twice_or ticks (if too_wide period locks then Err (too_much_skew just ticks) else Ok Ready) (lane_shared locks)

-- When the last position locks, it is a setback or the receiver is ready.
abbrev pub last_lock : ℕ → List Lock → ℕ → Option ℕ → Result Told Misaligned
last_lock period locks ticks None = Ok Quiet
last_lock period locks ticks (Some just) = if list_all is_locked locks then aligned_told period locks ticks just else Ok Quiet

-- Five failures in a row come before any last lock is considered.
abbrev pub five_failures_or : ℕ → Result Told Misaligned → Option ℕ → Result Told Fault
five_failures_or ticks otherwise (Some i) = Err (five_failures i ticks)
five_failures_or ticks (Ok told) None = Ok told
five_failures_or ticks (Err e) None = Err (Alignment e)

module _ (r : Layout) where
  -- What a tick does to the positions: its word is the newest heard, and `ticks` counts it.
  unfoldable pub judged : List ℕ → List Lock → ℕ → Result Told Fault
  judged recent locks ticks =
      five_failures_or ticks (last_lock (marker_period r) (locks_after r recent locks) ticks (just_locked r recent locks)) (failed_five r recent locks)

-- a fault is a setback while hunting
abbrev pub told : Result Told Fault → Told
told (Ok t) = t
told (Err fault) = Setback fault

-- and sends all positions searching
abbrev pub settled : Result Told Fault → List Lock → List Lock
settled (Ok t) locks = locks
settled (Err fault) locks = replicate (length locks) Searching

-- accepted, and nothing is told
abbrev pub is_quiet : Result Told Refusal → Bool
is_quiet (Ok Quiet) = true
is_quiet (Ok Ready) = false
is_quiet (Ok (Setback fault)) = false
is_quiet (Err e) = false

abbrev pub is_ready : Told → Bool
is_ready Quiet = false
is_ready Ready = true
is_ready (Setback fault) = false

module _ (r : Layout) where
  abbrev pub judged_tick : Hunt → ℕ → Result Told Fault
  judged_tick h word = judged r (heard h.recent word) h.locks (one_more h.ticks)

  -- what an accepted tick leaves
  unfoldable pub hunt_heard : Hunt → ℕ → Hunt
  hunt_heard h word =
      record {
        recent = heard h.recent word;
        locks = settled (judged_tick h word) (locks_after r (heard h.recent word) h.locks);
        ticks = one_more h.ticks;
        ready = is_ready (told (judged_tick h word));
      }

  abbrev pub after_word : Hunt → Result ℕ Refusal → Hunt
  after_word h (Ok word) = hunt_heard h word
  after_word h (Err e) = h

  abbrev pub answer_word : Hunt → Result ℕ Refusal → Result Told Refusal
  answer_word h (Ok word) = Ok (told (judged_tick h word))
  answer_word h (Err e) = Err e

  -- A tick: a refused one leaves the receiver as it stands.
  unfoldable pub hunt_after : Hunt → ℕ → Hunt
  hunt_after h word = after_word h (accepted_word r.lanes h.ready word)

  -- its answer
  unfoldable pub hunt_answer : Hunt → ℕ → Result Told Refusal
  hunt_answer h word = answer_word h (accepted_word r.lanes h.ready word)

-- How a position of a ready receiver stands; its lane; and its skew, from the position just locked.
unfoldable pub position_ready : Hunt → ℕ → Option Lock
position_ready h i = if h.ready && nat_lt i (length h.locks) then Some (lock_at h.locks i) else None

abbrev pub lane_ready : Hunt → ℕ → Option ℕ
lane_ready h i = option_map lane_of (position_ready h i)

abbrev pub skew_ready : ℕ → Hunt → ℕ → Option ℤ
skew_ready period h i = option_map (skew period) (position_ready h i)

module _ (r : Layout) where
  -- Many ticks: one after another, up to the first that tells something or is refused, which is answered.
  unfoldable pub hunts_after : Hunt → List ℕ → Hunt
  hunts_after h [] = h
  hunts_after h (word ∷ words) = if is_quiet (hunt_answer r h word) then hunts_after (hunt_after r h word) words else hunt_after r h word

  unfoldable pub hunts_answer : Hunt → List ℕ → Result Told Refusal
  hunts_answer h [] = Ok Quiet
  hunts_answer h (word ∷ words) = if is_quiet (hunt_answer r h word) then hunts_answer (hunt_after r h word) words else hunt_answer r h word
