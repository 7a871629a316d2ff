use Rattle.std.proofs.Common.{refl, ap, arith}
use Rattle.std.specs.Ptr.{block_ptr}
use Rattle.blocks.specs.Records.{offset_of}
use Rattle.blocks.proofs.Walking.{visits}
use Rattle.blocks.proofs.reader.Reader.new.Goals as goal

pub invariant_of-result : goal.invariant_of-result
unfolding offset_of
invariant_of-result c = record { counted = omega arith; placed = refl; lent = ap (block_ptr c.args.src.ref_ptr.0) (omega arith) }

pub returns : goal.returns
returns c = record { source = refl; index = refl; visits = visits }
