-- The digits so far are those of the row.
use Rattle.commands.proofs.Rows.{Same}
use Rattle.commands.proofs.words.Pair.is_row.Given as goal

abbrev pub invariant-loop-n : goal.invariant-loop-n
invariant-loop-n l = Same l.printed l.self.words l.row l.digits l.n
