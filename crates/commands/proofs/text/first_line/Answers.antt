use Rattle.std.proofs.Common.{◌∙◌, sym, eqb}
use Rattle.commands.proofs.TextLines.{split_here, split_nowhere}
use Rattle.commands.proofs.text.first_line.Goals as goal

pub returns-in-Some : goal.returns-in-Some
returns-in-Some c = split_here (λ b. eqb b 10) c.args.text.now c.in-Some.at (sym c.line_feed.ensures ∙ c.in-Some.is)

pub returns-in-None : goal.returns-in-None
returns-in-None c = split_nowhere (λ b. eqb b 10) c.args.text.now (sym c.line_feed.ensures ∙ c.in-None.is)
