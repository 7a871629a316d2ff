-- The table holds the powers.
use Rattle.std.proofs.Common.{◌<◌, sym, ◌∙◌, subst, lit<}
use Rattle.polynomials.proofs.Products.{shifted_lt}
use Rattle.gf1024.specs.Elements.{same}
use Rattle.gf1024.proofs.Powers.{power_value}
use Rattle.gf1024.proofs.PowerLists.{exps}
use Rattle.gf1024.proofs.Logarithms.{exp_at}
use Rattle.gf1024.proofs.tables.exp.Goals as goal

pub invariant_of-result : goal.invariant_of-result
unfolding exps
invariant_of-result c = record { small = subst (λ n. n < 1024) (sym (exp_at c.args.i c.requires)) (shifted_lt c.args.i 1 (lit< tt)) }

pub returns : goal.returns
unfolding exps
returns c = same _ _ (exp_at c.args.i c.requires ∙ sym (power_value c.args.i))
