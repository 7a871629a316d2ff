-- Whole turns of the exponent drop out.
use Rattle.std.proofs.Common.{sym, ◌∙◌}
use Rattle.polynomials.proofs.Order.{shifted_mod}
use Rattle.gf1024.specs.Elements.{same}
use Rattle.gf1024.proofs.Powers.{power_value, laws}
use Rattle.gf1024.proofs.alpha_power.Goals as goal

pub returns-clause-value : goal.returns-clause-value
returns-clause-value c = c.exp.ensures ∙ same _ _ (power_value _ ∙ shifted_mod c.args.i ∙ sym (power_value c.args.i))

pub returns-clause-laws : goal.returns-clause-laws
returns-clause-laws c = laws
