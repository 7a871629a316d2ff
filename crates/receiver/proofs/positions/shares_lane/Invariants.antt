use Rattle.std.proofs.Common.{◌≡◌, None}
use Rattle.bits.specs.Lowest.{lowest}
use Rattle.receiver.specs.Positions.{is_twin}
use Rattle.receiver.proofs.positions.shares_lane.Given as goal

abbrev pub invariant-loop-i : goal.invariant-loop-i
invariant-loop-i l = lowest (λ j. is_twin l.positions j l.position) l.i ≡ None
