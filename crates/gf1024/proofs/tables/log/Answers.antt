-- The table holds the exponents.
use Rattle.std.proofs.Common.{◌≡◌, ◌<◌, ap, get_or, ◌∙◌, sym, subst, arith}
use Rattle.field.specs.Sums.{pow}
use Rattle.gf1024.specs.Field.{ring, alpha}
use Rattle.gf1024.specs.Elements.{same}
use Rattle.gf1024.proofs.Powers.{power_value}
use Rattle.gf1024.proofs.PowerLists.{logs}
use Rattle.gf1024.proofs.Logarithms.{log_at}
use Rattle.gf1024.proofs.tables.log.Goals as goal

pub returns : goal.returns
unfolding logs
returns c =
    let e : c.from.result ≡ get_or logs c.args.a.value 0 = c.from.ensures ∙ ap (λ n. get_or logs n 0) c.from-a.ensures in
    let h = log_at c.args.a.value (omega arith) c.args.a.small in
    subst (λ i. (i < 1023) × (pow ring alpha i ≡ c.args.a)) (sym e) (h.0, same _ _ (power_value (get_or logs c.args.a.value 0) ∙ h.1))
