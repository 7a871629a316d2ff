use Rattle.std.proofs.Common.{rules}
use Rattle.pairs.specs.Packing.{every_second}
use Rattle.pairs.proofs.Messaged.{made_by}
use Rattle.pairs.proofs.message.symbols.Goals as goal

pub returns : goal.returns
returns c = made_by _ _ (every_second c.args.tens.now c.args.first) (λ x y q h. search rules) c.from_fn.result 514 c.from_fn.ensures.items
