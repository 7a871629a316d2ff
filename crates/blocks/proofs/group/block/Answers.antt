use Rattle.std.proofs.Common.{ℕ, sym, ap, rules}
use Rattle.bits.proofs.Fields.{number-whole}
use Rattle.blocks.proofs.group.block.Goals as goal

pub returns : goal.returns
returns c = ap (λ (x : ℕ). record { header = c.args.header; payload = x }) (sym (number-whole c.args.payload 64 (search rules)))
