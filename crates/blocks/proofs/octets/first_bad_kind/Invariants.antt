-- The records passed have kinds up to 3.
use Rattle.std.proofs.Common.{◌≡◌, None}
use Rattle.bits.specs.Lowest.{lowest}
use Rattle.blocks.specs.Calls.{kind_above_3}
use Rattle.blocks.proofs.octets.first_bad_kind.Given as goal

abbrev pub invariant-loop-i : goal.invariant-loop-i
invariant-loop-i l = lowest (kind_above_3 l.records) l.i ≡ None
