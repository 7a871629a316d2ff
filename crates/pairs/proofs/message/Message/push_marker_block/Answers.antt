use Rattle.std.proofs.Common.{ℕ, List, ap, ◌∙◌}
use Rattle.bits.specs.Bits.{field, table, nth}
use Rattle.lanes.specs.Pads.{pad_bit, pad_memory}
use Rattle.lanes.specs.Rates.{Layout}
use Rattle.pairs.specs.Messages.{message_with, pad_size}
use Rattle.pairs.proofs.Opened.{block_put}
use Rattle.pairs.proofs.message.Message.push_marker_block.Goals as goal

pub returns-clause-bits : goal.returns-clause-bits
returns-clause-bits g c =
    let r : Layout = g.R.Rate.layout in
    let f : ℕ → ℕ = pad_bit (nth (pad_memory c.args.pad.now)) in
    let m1 : List ℕ = c.push_markers.new.self in
    let m2 : List ℕ = c.push_pad.new.self in
    block_put r (table (pad_size r.lanes) f) c.args.status c.args.self.now m1 m2 c.push_bits.new.self c.push_markers.ensures
    (c.push_pad.ensures.bits ∙ ap (λ (n : ℕ). message_with m1 (table n f)) c.pad_size.ensures)
    (c.push_bits.ensures ∙ ap (λ (x : ℕ). message_with m2 (field x 0 3)) c.from.ensures)
