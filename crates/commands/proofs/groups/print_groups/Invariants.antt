-- The groups so far are printed.
use Rattle.commands.proofs.Printing.{Stands}
use Rattle.commands.proofs.groups.print_groups.Given as goal

abbrev pub invariant-loop-group : goal.invariant-loop-group
invariant-loop-group g l = Stands (g.R.Read.remaining l.fn.input) (g.R.Read.remaining l.input) (g.W.Write.contents l.fn.out) (g.W.Write.contents l.out) l.group
