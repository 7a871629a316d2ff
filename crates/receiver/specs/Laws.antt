-- What hunts do, over lists of ticks and on each tick. Assumes nothing.
use Rattle.std.specs.Prelude.{◌≡◌, ◌≢◌, ℕ, ◌-◌, ◌<◌, true, false, if◌then◌else◌, List, [], ◌∷◌, length, drop, map, min, replicate, Some, None, Ok, Err, Option, Result, ℤ, pos, ◌-ℤ◌, ◌≤ℤ◌, nat_lt}
use Rattle.bits.specs.Bits.{bit, number}
use Rattle.lanes.specs.Rates.{Layout, marker_period}
use Rattle.lanes.specs.declared.lock.Lock.{Lock}
use Rattle.lanes.specs.declared.lock.Lock.TheVariants.{Searching}
use Rattle.lanes.specs.declared.lock.Event.TheVariants.{Locks, FifthFailure}
use Rattle.receiver.specs.Counts.{top, one_more}
use Rattle.receiver.specs.Faults.{ticks_of, five_failures}
use Rattle.receiver.specs.Hunts.{Hunt, fresh, hunt_after, hunt_answer}
use Rattle.receiver.specs.Positions.{lock_at, event_at, locks_after, is_locked, lane_of}
use Rattle.receiver.specs.Recent.{heard, window}
use Rattle.receiver.specs.Refusals.{accepted_word}
use Rattle.receiver.specs.Skews.{skew, most_apart}
use Rattle.receiver.specs.declared.fault.Cause.{Cause}
use Rattle.receiver.specs.declared.fault.Cause.TheVariants.{LaneTwice, Skew}
use Rattle.receiver.specs.declared.fault.Fault.{Fault}
use Rattle.receiver.specs.declared.fault.Fault.TheVariants.{Lanes, Alignment}
use Rattle.receiver.specs.declared.refusal.Refusal.{Refusal}
use Rattle.receiver.specs.declared.told.Told.TheVariants.{Ready, Setback}

-- a receiver behind some ticks
unfoldable pub run : Layout → Hunt → List ℕ → Hunt
run r h [] = h
run r h (word ∷ words) = run r (hunt_after r h word) words

abbrev pub word_before : Result ℕ Refusal → List ℕ → List ℕ
word_before (Ok word) words = word ∷ words
word_before (Err e) words = words

-- the words of their accepted ones
unfoldable pub accepted : Layout → Hunt → List ℕ → List ℕ
accepted r h [] = []
accepted r h (word ∷ words) = word_before (accepted_word r.lanes h.ready word) (accepted r (hunt_after r h word) words)

-- the last 120 of some bits as a number, the first lowest; none where there are fewer
abbrev pub window_in : List ℕ → Option ℕ
window_in bs = if nat_lt (length bs) 120 then None else Some (number (drop (length bs - 120) bs))

-- P holds of a position, and of no lower one
abbrev pub Lowest : (ℕ → Type 0) → ℕ → Type 0
Lowest P i = P i × ((j : ℕ) → j < i → P j → ⊥)

abbrev pub AllLocked : List Lock → Type 0
AllLocked locks = (i : ℕ) → i < length locks → is_locked (lock_at locks i) ≡ true

-- another position has its lane
abbrev pub HasTwin : List Lock → ℕ → Type 0
HasTwin locks i = (j : ℕ) × (j < length locks) × (j ≢ i) × (lane_of (lock_at locks j) ≡ lane_of (lock_at locks i))

abbrev pub SharesLane : List Lock → ℕ → Type 0
SharesLane locks i = (i < length locks) × HasTwin locks i

abbrev pub DifferentLanes : List Lock → Type 0
DifferentLanes locks = (i j : ℕ) → i < length locks → j < length locks → lane_of (lock_at locks i) ≡ lane_of (lock_at locks j) → i ≡ j

-- no two skews are more than 4,781 apart
abbrev pub NearSkews : ℕ → List Lock → Type 0
NearSkews period locks = (i j : ℕ) → i < length locks → j < length locks → (skew period (lock_at locks i) -ℤ skew period (lock_at locks j)) ≤ℤ pos most_apart

module _ (r : Layout) (h : Hunt) (word : ℕ) where
  -- a position fails a fifth time in a row on the tick of this word, or locks on it
  abbrev pub FailsFifth : ℕ → Type 0
  FailsFifth i = (i < length h.locks) × (event_at r (heard h.recent word) h.locks i ≡ FifthFailure)

  abbrev pub LocksNow : ℕ → Type 0
  LocksNow i = (i < length h.locks) × (event_at r (heard h.recent word) h.locks i ≡ Locks)

  -- the positions as the tick's tests leave them
  abbrev pub tested_locks : List Lock
  tested_locks = locks_after r (heard h.recent word) h.locks

  abbrev pub Misaligns : Cause → ℕ → Type 0
  Misaligns LaneTwice i = Lowest (SharesLane tested_locks) i
  Misaligns Skew i = DifferentLanes tested_locks × (NearSkews (marker_period r) tested_locks → ⊥) × Lowest LocksNow i

  -- what a setback names: the lowest layer, in it the lower cause, and the lowest position
  abbrev pub Names : Fault → Type 0
  Names (Lanes f) = Lowest FailsFifth f.position
  Names (Alignment f) = ((i : ℕ) → FailsFifth i → ⊥) × AllLocked tested_locks × Misaligns f.cause f.position

  -- A setback on an accepted tick: it is counted, its word is heard, and all positions search.
  pub record SetBack (fault : Fault) : Type 0 where
    pub names : Names fault
    pub ticks : ticks_of fault ≡ (hunt_after r h word).ticks
    pub recent : (hunt_after r h word).recent ≡ heard h.recent word
    pub locks : (hunt_after r h word).locks ≡ replicate (length h.locks) Searching
    pub ready : (hunt_after r h word).ready ≡ false

-- What a ready receiver has.
pub record IsAligned (r : Layout) (h : Hunt) : Type 0 where
  pub ready : h.ready ≡ true
  pub locked : AllLocked h.locks
  pub lanes : DifferentLanes h.locks
  pub skews : NearSkews (marker_period r) h.locks

pub record HuntLaws (r : Layout) : Type 0 where
  -- Of a hunt only what was accepted counts: a window is the last 120 bits of its position, and there is none before.
  pub windows : (words : List ℕ) (i : ℕ) → window (run r (fresh r) words).recent i ≡ window_in (map (λ word. bit word i) (accepted r (fresh r) words))
  pub ticks : (words : List ℕ) → (run r (fresh r) words).ticks ≡ min (length (accepted r (fresh r) words)) top
  pub setback : (h : Hunt) (word : ℕ) (fault : Fault) → hunt_answer r h word ≡ Ok (Setback fault) → SetBack r h word fault
  pub ready : (h : Hunt) (word : ℕ) → hunt_answer r h word ≡ Ok Ready → IsAligned r (hunt_after r h word)
  -- And at once: on an accepted tick a fifth failure in a row is told, and without one the last lock, if it is fit.
  pub fifth : (h : Hunt) (word : ℕ) → accepted_word r.lanes h.ready word ≡ Ok word → (i : ℕ) → FailsFifth r h word i →
      (position : ℕ) × (hunt_answer r h word ≡ Ok (Setback (five_failures position (one_more h.ticks))))
  pub at_once : (h : Hunt) (word : ℕ) → accepted_word r.lanes h.ready word ≡ Ok word → ((i : ℕ) → FailsFifth r h word i → ⊥) → (k : ℕ) → LocksNow r h word k →
      AllLocked (tested_locks r h word) → DifferentLanes (tested_locks r h word) → NearSkews (marker_period r) (tested_locks r h word) → hunt_answer r h word ≡ Ok Ready
