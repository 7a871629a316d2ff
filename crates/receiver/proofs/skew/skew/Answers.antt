use Rattle.std.proofs.Common.{◌≡◌, ◌*◌, ◌<◌, ◌≤◌, ap, ◌∙◌, arith, rules}
use Rattle.std.proofs.lemmas.Int.{ints, to_z-of_z}
use Rattle.std.proofs.lemmas.Bool.Decides.{nat_tests}
use Rattle.receiver.specs.Skews.{skew}
use Rattle.receiver.proofs.skew.skew.Goals as goal

pub returns-then-left-period-clause-value : goal.returns-then-left-period-clause-value
unfolding skew
returns-then-left-period-clause-value c = grind (arith, ints, nat_tests)

pub returns-else-left-period-clause-value : goal.returns-else-left-period-clause-value
unfolding skew
returns-else-left-period-clause-value c = grind (arith, ints, nat_tests)
