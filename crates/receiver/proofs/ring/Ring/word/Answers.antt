use Rattle.std.proofs.Common.{◌≡◌, ℕ, length, List, get_or, ap, ◌∙◌, rules, arith, subst, sym}
use Rattle.receiver.proofs.Turn.{read_age}
use Rattle.receiver.proofs.ring.Ring.word.Goals as goal

pub returns : goal.returns
returns c =
    let i = c.self.inside in
    read_age i.words i.next i.len c.args.age (omega arith) (omega arith) (omega arith) (rw c.self.view_is (search rules)) ∙ ap (λ (xs : List ℕ). get_or xs c.args.age 0) c.self.view_is
