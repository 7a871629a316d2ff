use Rattle.std.proofs.Common.{◌∙◌}
use Rattle.blocks.proofs.BadKinds.{unknown_is}
use Rattle.blocks.proofs.octets.is_unknown.Goals as goal

pub returns : goal.returns
returns c = c.is_err.ensures.value ∙ unknown_is _ _ c.try_from.ensures
