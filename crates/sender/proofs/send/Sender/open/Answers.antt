use Rattle.std.proofs.Common.{◌≡◌, ℕ, List, refl, ap, ◌∙◌}
use Rattle.std.proofs.lemmas.Bool.{eq-eqb, ne_eqb}
use Rattle.bits.specs.Bits.{table, nth}
use Rattle.bits.proofs.Tables.{length-table}
use Rattle.lanes.specs.Pads.{pad_bit, pad_memory}
use Rattle.lanes.specs.Rates.{Layout}
use Rattle.pairs.specs.Messages.{message_with, pad_size, opening, marker_block}
use Rattle.pairs.proofs.Opened.{block_first}
use Rattle.sender.specs.States.{SenderState, opens, pad_after}
use Rattle.sender.specs.View.{state_of}
use Rattle.sender.proofs.send.Sender.open.Goals as goal

pub returns-then-opens-clause-message : goal.returns-then-opens-clause-message
unfolding opening
returns-then-opens-clause-message g c =
    let r : Layout = g.R.Rate.layout in
    let s : SenderState = state_of c.args.self.now in
    let pads : List ℕ = table (pad_size r.lanes) (pad_bit (nth s.pad)) in
    rw (eq-eqb s.index 0 c.if-opens.true)
    (c.push_marker_block.ensures.bits ∙ ap (λ (bs : List ℕ). message_with bs (marker_block r pads s.status)) c.requires
    ∙ block_first r pads s.status g.met.R.Rate.lawful.width (length-table (pad_size r.lanes) (pad_bit (nth s.pad))))

pub returns-then-opens-clause-state : goal.returns-then-opens-clause-state
unfolding pad_after
returns-then-opens-clause-state g c =
    let s : SenderState = state_of c.args.self.now in
    let pad : pad_memory c.push_marker_block.new.pad ≡ pad_after g.R.Rate.layout.lanes (opens s) s.pad = rw (eq-eqb s.index 0 c.if-opens.true) c.push_marker_block.ensures.memory in
    ap (λ (pad : List _). record { scrambler = s.scrambler; pad = pad; status = s.status; index = s.index }) pad

pub returns-else-opens-clause-message : goal.returns-else-opens-clause-message
unfolding opening
returns-else-opens-clause-message g c = rw (ne_eqb c.args.self.now.index 0 c.if-opens.false) c.requires

pub returns-else-opens-clause-state : goal.returns-else-opens-clause-state
unfolding pad_after
returns-else-opens-clause-state g c =
    let s : SenderState = state_of c.args.self.now in
    let pad : s.pad ≡ pad_after g.R.Rate.layout.lanes (opens s) s.pad = rw (ne_eqb s.index 0 c.if-opens.false) refl in
    ap (λ (pad : List _). record { scrambler = s.scrambler; pad = pad; status = s.status; index = s.index }) pad
