use Rattle.std.proofs.Common.{arith}
use Rattle.blocks.proofs.Words.{started}
use Rattle.blocks.proofs.scramble.MemoryTryFromU64.try_from.Goals as goal

pub returns : goal.returns
returns c = (omega arith, started c.args.start c.reverse_bits.result c.reverse_bits.ensures)
