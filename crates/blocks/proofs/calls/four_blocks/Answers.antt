use Rattle.std.proofs.Common.{arith, rules}
use Rattle.blocks.proofs.Buffers.{wrong_kind}
use Rattle.blocks.proofs.calls.four_blocks.Goals as goal

pub returns-in_err-block : goal.returns-in_err-block
returns-in_err-block c = wrong_kind _ c.if-records-ne36.false _ c.as_chunks.ensures.front _ _ _ _ c.from_residual.ensures.1 c.in_err-block.ensures (omega arith) (search rules)

pub returns-in_err-block-2 : goal.returns-in_err-block-2
returns-in_err-block-2 c = wrong_kind _ c.if-records-ne36.false _ c.as_chunks.ensures.front _ _ _ _ c.from_residual-in_err-block-2.ensures.1 c.in_err-block-2.ensures (omega arith) (search rules)

pub returns-in_err-block-3 : goal.returns-in_err-block-3
returns-in_err-block-3 c = wrong_kind _ c.if-records-ne36.false _ c.as_chunks.ensures.front _ _ _ _ c.from_residual-in_err-block-3.ensures.1 c.in_err-block-3.ensures (omega arith) (search rules)

pub returns-in_err-block-4 : goal.returns-in_err-block-4
returns-in_err-block-4 c = wrong_kind _ c.if-records-ne36.false _ c.as_chunks.ensures.front _ _ _ _ c.from_residual-in_err-block-4.ensures.1 c.in_err-block-4.ensures (omega arith) (search rules)
