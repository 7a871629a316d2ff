use Rattle.std.proofs.Common.{◌≡◌, ℕ, ◌+◌, ◌%◌, length, List, take, set, min, ap, ◌∙◌, rules, arith}
use Rattle.receiver.specs.Turns.{newest_first}
use Rattle.receiver.specs.Recent.{heard, kept}
use Rattle.receiver.proofs.Turn.{push_kept}
use Rattle.receiver.proofs.ring.Ring.push.Goals as goal

pub returns : goal.returns
unfolding heard
returns c =
    let i = c.self.inside in
    ap (λ (k : ℕ). take k (newest_first (set i.words i.next c.args.word) ((i.next + 1) % 8192))) c.min-self-inside.ensures
    ∙ push_kept i.words i.next i.len c.args.word 8191 (omega arith) (omega arith) ∙ ap (λ (xs : List ℕ). kept 8192 xs c.args.word) c.self.view_is
