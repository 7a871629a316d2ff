use Rattle.std.proofs.Common.{ℕ, ◌<◌, ◌≤◌}
use Rattle.receiver.specs.Pending.{ticks_to_test}
use Rattle.receiver.specs.Positions.{lock_at}
use Rattle.receiver.proofs.positions.nearest.Given as goal

abbrev pub invariant-loop-lock : goal.invariant-loop-lock
invariant-loop-lock l = record { some : 0 < l.ticks; tests : (i : ℕ) → i < l.lock-index → l.ticks ≤ ticks_to_test (lock_at l.positions i) }
