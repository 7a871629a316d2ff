use Rattle.std.proofs.Common.{rules}
use Rattle.commands.proofs.Rows.{not_written, cut_report}
use Rattle.commands.proofs.words.print_rows.Goals as goal

pub returns-in_err-read_to_string : goal.returns-in_err-read_to_string
returns-in_err-read_to_string g c = not_written _ _ _ (search rules) (search rules)

pub returns-in_err-tallies : goal.returns-in_err-tallies
returns-in_err-tallies g c = not_written _ _ _ (search rules) (search rules)

pub returns-in_err-put : goal.returns-in_err-put
returns-in_err-put g c = cut_report _ _ _ c.in_ok-tallies.tallies _ (search rules) c.in_err-put.ensures (search rules) (search rules)
