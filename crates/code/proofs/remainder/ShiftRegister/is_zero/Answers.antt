-- The symbols of the register are tested.
use Rattle.std.proofs.Common.{◌≡◌, take, tests, rules}
use Rattle.std.proofs.lemmas.Iterator.{cases_from_all, YieldsList-from_slice}
use Rattle.code.proofs.WordRemainders.{zero_answer}
use Rattle.code.proofs.remainder.ShiftRegister.is_zero.Goals as goal

pub returns : goal.returns
returns c =
    let all = take 30 c.args.self.now.symbols in
    zero_answer c.all.result c.args.self.now.symbols c.args.self.now.held.size
    (cases_from_all _ _ _ (λ x. x ≡ 0) (λ x. x ≡ 0 → ⊥) c.all.ensures.ran (YieldsList-from_slice all cc) (λ x q k. search (rules, tests)) (λ x q k. search (rules, tests)))
