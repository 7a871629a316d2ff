-- The records so far are listed; fewer bytes are left with each.
use Rattle.std.proofs.Common.{◌≡◌, length}
use Rattle.blocks.specs.Records.{rest_at}
use Rattle.commands.proofs.Listing.{Listed}
use Rattle.commands.proofs.text.text_of_records.Given as goal

abbrev pub invariant-loop-record : goal.invariant-loop-record
invariant-loop-record l = (l.reader.src.now ≡ l.fn.records) × Listed l.fn.records l.text.items l.reader.index

abbrev pub decreases-loop-record : goal.decreases-loop-record
decreases-loop-record l = length (rest_at l.reader.src.now l.reader.index)
