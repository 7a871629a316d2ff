-- The powers of alpha are filled in.
use Rattle.std.proofs.Common.{rules}
use Rattle.gf1024.specs.Field.{group}
use Rattle.code.proofs.places.Places.new.Goals as goal

pub invariant_of-result : goal.invariant_of-result
invariant_of-result c = record {
  filled = λ i l. let h = c.from_fn.ensures.items.at i group.zero l in search rules;
  powers = λ k l. let h = c.from_fn-2.ensures.items.at k group.zero l in search rules;
}
