-- Engines of one reach agree.
use Rattle.code.proofs.Engines.{engines_agree}
use Rattle.code.proofs.full.FullEngine.new.Goals as goal

pub returns : goal.returns
returns c = engines_agree
