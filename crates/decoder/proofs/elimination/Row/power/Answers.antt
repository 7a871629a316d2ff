-- A power of x is monic.
use Rattle.decoder.proofs.Stages.{power_monic}
use Rattle.decoder.proofs.elimination.Row.power.Goals as goal

pub returns-clause-monic : goal.returns-clause-monic
returns-clause-monic g c = power_monic g.F.Adds.group g.F.Field.ring c.zero-coefficients.result c.unit.result c.args.i c.requires c.zero-coefficients.ensures c.unit.ensures
