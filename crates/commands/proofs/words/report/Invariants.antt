-- So many tables are reported.
use Rattle.commands.proofs.Rows.{Reported}
use Rattle.commands.proofs.words.report.Given as goal

abbrev pub invariant-loop-table : goal.invariant-loop-table
invariant-loop-table l = Reported l.tallies l.text.items l.tried l.equal l.table
