use Rattle.std.proofs.Common.{◌≡◌, ◌*◌, ◌/◌, ◌++◌, drop}
use Rattle.pairs.specs.Packing.{strip_on}
use Rattle.pairs.proofs.strip.Words.fill.Given as goal

abbrev pub invariant-loop-number : goal.invariant-loop-number
invariant-loop-number g l = l.strip ≡ strip_on g.R.Rate.layout.lanes l.self.words l.number ++ drop (l.number * (1360 / g.R.Rate.layout.lanes)) l.initial.strip
