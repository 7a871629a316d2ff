-- The records so far are blocks, and those that are left decide.
use Rattle.std.proofs.Common.{◌≡◌, ℕ}
use Rattle.commands.proofs.Records.{Left}
use Rattle.commands.proofs.groups.expect_group.Given as goal

abbrev pub invariant-loop : goal.invariant-loop
invariant-loop l = (l.reader.src.now ≡ l.fn.records) × (l.reader.index ≡ l.counter) × (k : ℕ) × Left 4 l.fn.records l.counter k
