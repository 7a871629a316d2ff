use Rattle.std.proofs.Common.{length, ap, sym, ◌∙◌, arith}
use Rattle.receiver.proofs.Turn.{length_kept}
use Rattle.receiver.proofs.ring.Ring.len.Goals as goal

pub returns : goal.returns
returns c = sym (length_kept c.self.inside.words c.self.inside.next c.self.inside.len (omega arith) (omega arith)) ∙ ap length c.self.view_is
