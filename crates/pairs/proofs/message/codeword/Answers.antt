use Rattle.std.proofs.Common.{◌≡◌, sym, subst, rules}
use Rattle.code.specs.Code.{codeword_of}
use Rattle.code.proofs.Named.{codeword_small}
use Rattle.pairs.specs.Packing.{Small}
use Rattle.pairs.proofs.message.codeword.Goals as goal

pub returns-clause-small : goal.returns-clause-small
returns-clause-small c =
    let e : c.encode.new.word ≡ codeword_of c.args.message.now = search rules in
    subst Small (sym e) (codeword_small c.args.message.now c.requires)
