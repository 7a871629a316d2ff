-- The coefficients come out of the definition.
use Rattle.code.proofs.Generator.{coefficients_are}
use Rattle.code.proofs.encoder.generator_polynomial.Goals as goal

pub returns : goal.returns
returns c = coefficients_are
