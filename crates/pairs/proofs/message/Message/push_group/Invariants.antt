use Rattle.std.proofs.Common.{◌≡◌, ◌∷◌, take}
use Rattle.blocks.specs.Groups.{words, one_if}
use Rattle.pairs.specs.Messages.{message_with}
use Rattle.pairs.proofs.message.Message.push_group.Given as goal

abbrev pub invariant-loop-part : goal.invariant-loop-part
invariant-loop-part l = l.self ≡ message_with l.fn.self (one_if l.first ∷ words (take l.part-index l.part-items))
