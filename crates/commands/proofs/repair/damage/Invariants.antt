-- So many steps are done.
use Rattle.commands.proofs.Repairs.{Stepped}
use Rattle.commands.proofs.repair.damage.Given as goal

abbrev pub invariant-loop-step : goal.invariant-loop-step
invariant-loop-step l = Stepped l.fn.word l.fn.text.items l.text.items l.word l.sequence.number l.step
