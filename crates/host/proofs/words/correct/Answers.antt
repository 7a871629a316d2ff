use Rattle.std.proofs.Common.{refl}
use Rattle.host.proofs.Lengths.{correction-length}
use Rattle.host.proofs.words.correct.Goals as goal

pub returns-then-word-ne-WORD-clause-answer : goal.returns-then-word-ne-WORD-clause-answer
returns-then-word-ne-WORD-clause-answer g c = rw (correction-length g.E.Engine.reach c.args.word.now c.if-word-ne-WORD.true) refl

pub returns-then-word-ne-WORD-clause-word : goal.returns-then-word-ne-WORD-clause-word
returns-then-word-ne-WORD-clause-word g c = rw (correction-length g.E.Engine.reach c.args.word.now c.if-word-ne-WORD.true) refl
