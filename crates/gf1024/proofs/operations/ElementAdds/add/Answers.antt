-- The sum is below 1,024.
use lib.Bits.{xor_lt}
use Rattle.gf1024.proofs.operations.ElementAdds.add.Goals as goal

pub invariant_of-result : goal.invariant_of-result
invariant_of-result c = record { small = xor_lt 10 _ _ c.args.self.small c.args.other.small }
