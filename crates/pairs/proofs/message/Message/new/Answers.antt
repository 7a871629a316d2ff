use Rattle.std.proofs.Common.{◌≡◌, ℕ, replicate, arith}
use Rattle.std.proofs.lemmas.Grind.{common_steps}
use Rattle.bits.specs.Bits.{nth}
use Rattle.pairs.proofs.message.Message.new.Goals as goal

zeros : (n i : ℕ) → nth (replicate n 0) i ≡ 0
zeros n i = grind (arith, common_steps)

pub invariant_of-result : goal.invariant_of-result
invariant_of-result c = (omega arith, ((λ i. let z = zeros 10280 i in omega arith), (λ i h. zeros 10280 i)))
