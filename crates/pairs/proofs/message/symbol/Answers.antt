use Rattle.std.proofs.Common.{◌≡◌, length, fold, reverse, ◌∙◌, arith, rules}
use Rattle.pairs.proofs.Messaged.{below_bit, below_all}
use Rattle.pairs.proofs.message.symbol.Goals as goal

pub returns : goal.returns
returns c =
    let e : c.fold.result ≡ fold below_bit 0 (reverse c.args.bits.now) = search rules in
    let n : length c.args.bits.now ≡ 10 = search rules in
    e ∙ below_all c.args.bits.now c.requires (omega arith)
