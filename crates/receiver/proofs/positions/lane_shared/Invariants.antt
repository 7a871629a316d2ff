use Rattle.std.proofs.Common.{◌≡◌, None}
use Rattle.bits.specs.Lowest.{lowest}
use Rattle.receiver.specs.Positions.{shares_lane}
use Rattle.receiver.proofs.positions.lane_shared.Given as goal

abbrev pub invariant-loop-i : goal.invariant-loop-i
invariant-loop-i l = lowest (shares_lane l.positions) l.i ≡ None
