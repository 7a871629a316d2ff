-- An engine of reach 0 leaves every word as it is.
use Rattle.code.proofs.Answered.{watching_keeps}
use Rattle.code.proofs.watch.WatchEngine.new.Goals as goal

pub returns : goal.returns
returns c = watching_keeps
