use Rattle.std.proofs.Common.{◌≡◌, true, take}
use Rattle.std.specs.List.{list_all}
use Rattle.receiver.specs.Positions.{is_locked}
use Rattle.receiver.proofs.positions.all_locked.Given as goal

abbrev pub invariant-loop-lock : goal.invariant-loop-lock
invariant-loop-lock l = list_all is_locked (take l.lock-index l.positions) ≡ true
