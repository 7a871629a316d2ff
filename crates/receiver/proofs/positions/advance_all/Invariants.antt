use Rattle.std.proofs.Common.{◌≡◌, None}
use Rattle.bits.specs.Lowest.{lowest}
use Rattle.lanes.specs.Locks.{next_lock}
use Rattle.lanes.specs.declared.lock.Lock.TheVariants.{Searching}
use Rattle.receiver.specs.Pending.{lock_later, locks_later}
use Rattle.receiver.specs.Positions.{passes_at, event_at, is_fifth_failure, is_lock}
use Rattle.receiver.proofs.Moving.{Moved}
use Rattle.receiver.proofs.positions.advance_all.Given as goal

abbrev pub invariant-loop-i : goal.invariant-loop-i
invariant-loop-i g l = record {
  moved : Moved Searching l.i (λ i lock. next_lock g.R.Rate.layout (passes_at g.R.Rate.layout l.ring i) (lock_later l.pending lock)) l.initial.positions l.positions;
  lasts : lowest (λ i. is_fifth_failure (event_at g.R.Rate.layout l.ring (locks_later l.pending l.initial.positions) i)) l.i ≡ None;
  locks : l.just ≡ lowest (λ i. is_lock (event_at g.R.Rate.layout l.ring (locks_later l.pending l.initial.positions) i)) l.i;
}
