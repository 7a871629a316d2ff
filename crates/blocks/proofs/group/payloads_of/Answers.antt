use Rattle.std.proofs.Common.{◌≡◌, List, length, ap, ◌∙◌, rules}
use Rattle.blocks.specs.Groups.{words}
use Rattle.blocks.specs.declared.block.Block.{Block}
use Rattle.bits.proofs.Arrays.{mapped}
use Rattle.blocks.proofs.Written.{payloads_map}
use Rattle.blocks.proofs.group.payloads_of.Goals as goal

pub returns : goal.returns
returns c =
    let bs : List Block = c.args.blocks in
    let four : length bs ≡ 4 = search rules in
    ap words (mapped (λ (b : Block). b.payload) bs c.map.result 4 c.map.ensures.items four (λ p q x y k. search rules)) ∙ payloads_map bs
