-- So many symbols are drawn.
use Rattle.std.proofs.Common.{◌≡◌}
use Rattle.commands.specs.Repair.{number_after, symbols}
use Rattle.commands.proofs.repair.draw_message.Given as goal

abbrev pub invariant-loop-n : goal.invariant-loop-n
invariant-loop-n l = (l.message.items ≡ symbols l._n) × (l.sequence.number ≡ number_after l._n)
