-- Each symbol is an element.
use Rattle.std.proofs.Common.{◌≡◌, zero-add, rules, slice_index}
use Rattle.gf1024.specs.Field.{group, element}
use Rattle.code.proofs.Turns.{each_call}
use Rattle.code.proofs.full.load.Goals as goal

pub returns : goal.returns
returns c = λ k l. rw zero-add at (each_call _ _ (λ i y. y ≡ element (slice_index c.args.symbols.now i)) (λ i y q call. search rules) c.from_fn.result 0 544 c.from_fn.ensures.items.each k group.zero l)
