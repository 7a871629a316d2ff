-- The remainder decides.
use Rattle.code.proofs.WordRemainders.{decides}
use Rattle.code.proofs.Words.{formed}
use Rattle.code.proofs.word.«Symbols+SIZE».has_roots.Goals as goal

pub returns : goal.returns
returns c = decides c.args.self.symbols.now c.remainder.result.symbols (formed c.args.self) c.remainder.ensures c.is_zero.result c.is_zero.ensures
