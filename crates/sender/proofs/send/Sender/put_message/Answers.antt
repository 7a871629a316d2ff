use Rattle.std.proofs.Common.{◌≡◌, ℕ, ◌+◌, ◌*◌, ◌/◌, ◌%◌, List, length, ap, ◌∙◌, ap₂, arith}
use Rattle.bits.specs.Bits.{table, nth}
use Rattle.bits.proofs.Tables.{length-table}
use Rattle.blocks.specs.Scrambled.{scrambled_bits, scrambler_after}
use Rattle.blocks.proofs.Scrambles.{length-scrambled}
use Rattle.lanes.specs.Pads.{pad_bit}
use Rattle.lanes.specs.Rates.{Layout}
use Rattle.pairs.specs.Messages.{message_with, pad_size, opening, group_stream, message, sent_message}
use Rattle.pairs.proofs.Messaged.{with_fits}
use Rattle.pairs.proofs.Opened.{length-opening}
use Rattle.pairs.proofs.Streams.{length_blocks, length_stream}
use Rattle.pairs.proofs.WaysBack.{message_fits}
use Rattle.sender.specs.States.{SenderState, opens, opened_state, groups_of, blocks_of, state_after}
use Rattle.sender.specs.View.{state_of}
use Rattle.sender.proofs.send.Sender.put_message.Goals as goal

pub returns-clause-message : goal.returns-clause-message
unfolding sent_message message
returns-clause-message g c =
    let r : Layout = g.R.Rate.layout in
    let s : SenderState = state_of c.args.self.now in
    let records : List ℕ = c.args.records.now in
    let n : ℕ = groups_of r.lanes s in
    let groups : length records / 36 ≡ n = omega (arith, c.requires.records.0) in
    let pads : List ℕ = table (pad_size r.lanes) (pad_bit (nth s.pad)) in
    let front : List ℕ = opening r (opens s) pads s.status in
    let stream : List ℕ = group_stream (blocks_of n records) n in
    let front_size = length-opening r (opens s) pads s.status g.met.R.Rate.lawful.width (length-table (pad_size r.lanes) (pad_bit (nth s.pad))) in
    let blocks = length_blocks (4 * n) records in
    let size = length-scrambled s.scrambler stream in
    let stream_size = length_stream (blocks_of n records) n (omega arith) in
    let whole = message_fits r.lanes (opens s) g.met.R.Rate.lawful.width in
    c.put_groups.ensures.bits
    ∙ ap (λ (l : SenderState). message_with c.open.new.message (scrambled_bits l.scrambler (group_stream (blocks_of (length records / 36) records) (length records / 36)))) c.open.ensures.state
    ∙ ap₂ (λ (bs : List ℕ) (k : ℕ). message_with bs (scrambled_bits s.scrambler (group_stream (blocks_of k records) k))) c.open.ensures.message groups
    ∙ with_fits front (scrambled_bits s.scrambler stream) (omega arith)

pub returns-clause-state : goal.returns-clause-state
unfolding state_after
returns-clause-state g c =
    let r : Layout = g.R.Rate.layout in
    let s : SenderState = state_of c.args.self.now in
    let records : List ℕ = c.args.records.now in
    let groups : length records / 36 ≡ groups_of r.lanes s = omega (arith, c.requires.records.0) in
    let after : List ℕ → ℕ → List ℕ = λ m k. scrambler_after m (group_stream (blocks_of k records) k) in
    let f : List ℕ → SenderState → ℕ → SenderState = λ m l n. record { scrambler = m; pad = l.pad; status = l.status; index = (l.index + 1) % n } in
    ap (λ (m : List ℕ). f m (state_of c.open.new.self) c.pair_count.result) c.put_groups.ensures.memory
    ∙ ap (λ (l : SenderState). f (after l.scrambler (length records / 36)) l c.pair_count.result) c.open.ensures.state
    ∙ ap₂ (λ (k n : ℕ). f (after s.scrambler k) (opened_state r.lanes s) n) groups c.pair_count.ensures
