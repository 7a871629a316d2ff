-- The points passed are gathered.
use Rattle.std.proofs.Common.{◌≡◌, ℕ, ◌<◌, get_or}
use Rattle.decoder.proofs.errors.gather.Given as goal

abbrev pub invariant-loop-t : goal.invariant-loop-t
invariant-loop-t g l = (i : ℕ) → i < l.t → get_or l.located i g.F.Adds.group.zero ≡ get_or l.points (get_or l.found i 0) g.F.Adds.group.zero
