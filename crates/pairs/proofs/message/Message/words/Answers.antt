use Rattle.std.proofs.Common.{ap, ◌∙◌, arith}
use Rattle.code.specs.Code.{codeword_of}
use Rattle.pairs.specs.Messages.{word}
use Rattle.pairs.proofs.Coded.{two_small}
use Rattle.pairs.proofs.message.Message.words.Goals as goal

pub returns : goal.returns
unfolding word
returns c =
    (c.codeword.ensures.word ∙ ap codeword_of (c.symbols.ensures.symbols 0 (omega arith)), c.codeword-2.ensures.word ∙ ap codeword_of (c.symbols.ensures.symbols 1 (omega arith)))

pub codeword-requires : goal.codeword-requires
codeword-requires c = c.symbols.ensures.small 0

pub codeword-requires-2 : goal.codeword-requires-2
codeword-requires-2 c = c.symbols.ensures.small 1

pub invariant_of-result : goal.invariant_of-result
invariant_of-result c = record { small = two_small c.codeword.result c.codeword-2.result c.codeword.ensures.small c.codeword-2.ensures.small }
