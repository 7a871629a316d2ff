use Rattle.std.proofs.Common.{◌≡◌, List, length, ◌∙◌, rules}
use Rattle.blocks.specs.declared.block.Block.{Block}
use Rattle.bits.proofs.Arrays.{mapped}
use Rattle.blocks.proofs.Written.{headers_map}
use Rattle.blocks.proofs.group.headers_of.Goals as goal

pub returns : goal.returns
returns c =
    let bs : List Block = c.args.blocks in
    let four : length bs ≡ 4 = search rules in
    mapped (λ (b : Block). b.header) bs c.map.result 4 c.map.ensures.items four (λ p q x y k. search rules) ∙ headers_map bs
