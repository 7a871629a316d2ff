use Rattle.std.proofs.Common.{ℕ, ◌<◌, Bool, true, false, List, ◌∷◌, get_or, take, sym, ap, ◌∙◌, arith}
use Rattle.std.proofs.lemmas.List.{take_all}
use Rattle.bits.specs.Bits.{field}
use Rattle.blocks.specs.Groups.{words, one_if}
use Rattle.blocks.proofs.Passing.{words_more}
use Rattle.pairs.specs.Messages.{message_with}
use Rattle.pairs.proofs.Messaged.{put_next}
use Rattle.pairs.proofs.Opened.{field_one}
use Rattle.pairs.proofs.message.Message.push_group.Goals as goal

small : (b : Bool) → one_if b < 2
small true = omega arith
small false = omega arith

pub loop-part-init : goal.loop-part-init
loop-part-init c =
    let f : ℕ = one_if c.args.group.first in
    c.push_bits.ensures ∙ ap (message_with c.args.self.now) (ap (λ (b : ℕ). field b 0 1) c.from.ensures ∙ field_one f (small c.args.group.first))

pub loop-part-preserved : goal.loop-part-preserved
loop-part-preserved c =
    let k : ℕ = c.loop-part.part-index in
    let ps : List ℕ = c.args.group.parts in
    let f : ℕ = one_if c.args.group.first in
    let word : List ℕ = field (get_or ps k 0) 0 64 in
    put_next c.args.self.now (f ∷ words (take k ps)) word c.loop-part.invariant c.push_bits-in-loop-part.ensures (ap (λ (ws : List ℕ). f ∷ ws) (sym (words_more ps k (omega arith))))

pub returns : goal.returns
returns c =
    let ps : List ℕ = c.args.group.parts in
    c.loop-part.invariant ∙ ap (λ (xs : List ℕ). message_with c.args.self.now (one_if c.args.group.first ∷ words xs)) (take_all c.loop-part.part-index ps (omega arith))
