-- Each element is a symbol.
use Rattle.std.proofs.Common.{◌≡◌, zero-add, rules}
use Rattle.code.specs.Lifting.{at}
use Rattle.code.proofs.Turns.{each_call}
use Rattle.code.proofs.full.store.Goals as goal

pub returns : goal.returns
returns c = λ k l. rw zero-add at (each_call _ _ (λ i y. y ≡ (at c.args.elements.now i).value) (λ i y q call. search rules) c.from_fn.result 0 544 c.from_fn.ensures.items.each k 0 l)
