-- The lines so far are read.
use Rattle.std.proofs.Common.{◌≡◌, eqb}
use Rattle.std.specs.List.{slice_split}
use Rattle.commands.specs.Text.{records_in, records_of_text}
use Rattle.commands.proofs.TextLines.{prepended}
use Rattle.commands.proofs.text.records_of_text.Given as goal

abbrev pub invariant-loop-line : goal.invariant-loop-line
invariant-loop-line l = records_of_text l.fn.text ≡ prepended l.records.items (records_in l.line (slice_split (λ b. eqb b 10) l.rest))
