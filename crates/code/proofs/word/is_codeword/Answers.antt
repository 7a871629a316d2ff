-- The laws; what the check says of the word is found alone.
use Rattle.code.proofs.Existing.{each_encodes}
use Rattle.code.proofs.Far.{far_apart}
use Rattle.code.proofs.word.is_codeword.Goals as goal

pub returns-clause-law : goal.returns-clause-law
returns-clause-law c = far_apart

pub returns-clause-each : goal.returns-clause-each
returns-clause-each c = each_encodes
