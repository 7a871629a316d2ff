-- The lanes passed have their parts, and the others are as they were.
use Rattle.std.proofs.Common.{◌≡◌, length}
use Rattle.commands.proofs.LaneParts.{Written}
use Rattle.commands.proofs.strips.write_lanes.Given as goal

abbrev pub invariant-loop-lane : goal.invariant-loop-lane
invariant-loop-lane g l = (length l.lanes ≡ length l.fn.lanes) × Written g.W.Write.contents l.fn.size l.fn.strip l.fn.lanes l.lanes l.lane
