use Rattle.std.proofs.Common.{ℕ, ◌*◌, sym, ap, ◌∙◌}
use Rattle.sender.proofs.Refused.{wrong_count, by_kind}
use Rattle.sender.proofs.send.Sender.check.Goals as goal

pub returns-then-records-group_count : goal.returns-then-records-group_count
returns-then-records-group_count g c = wrong_count _ _ (λ e. c.if-records-group_count.true (e ∙ ap (λ (n : ℕ). 36 * n) (sym c.group_count.ensures)))

pub returns-in-Some : goal.returns-in-Some
returns-in-Some g c = by_kind _ _ (c.if-records-group_count.false ∙ ap (λ (n : ℕ). 36 * n) c.group_count.ensures) _ c.in-Some.ensures

pub returns-in-None : goal.returns-in-None
returns-in-None g c = by_kind _ _ (c.if-records-group_count.false ∙ ap (λ (n : ℕ). 36 * n) c.group_count.ensures) _ c.in-None.ensures
