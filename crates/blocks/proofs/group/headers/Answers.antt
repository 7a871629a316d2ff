use Rattle.std.proofs.Common.{◌≡◌, List, length, get_or, rules}
use Rattle.bits.specs.Bits.{field, bit}
use Rattle.blocks.specs.Groups.{flagged}
use Rattle.blocks.specs.declared.block.Header.{Header}
use Rattle.blocks.specs.declared.block.Header.TheVariants.{Data}
use Rattle.blocks.proofs.Written.{four}
use Rattle.blocks.proofs.group.headers.Goals as goal

pub returns : goal.returns
unfolding field
returns c =
    let hs : List Header = c.from_fn.result in
    let n : length hs ≡ 4 = search rules in
    let e0 : get_or hs 0 Data ≡ flagged (bit c.args.flags 0) = search rules in
    let e1 : get_or hs 1 Data ≡ flagged (bit c.args.flags 1) = search rules in
    let e2 : get_or hs 2 Data ≡ flagged (bit c.args.flags 2) = search rules in
    let e3 : get_or hs 3 Data ≡ flagged (bit c.args.flags 3) = search rules in
    let w = four hs Data n in
    cc
