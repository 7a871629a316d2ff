use Rattle.std.proofs.Common.{◌≡◌, ℕ, ◌+◌, ◌*◌, ◌/◌, ◌%◌, sym, ap, ◌∙◌, ap₂, add-zero, add-one, suc-mul, zero-mul, arith}
use Rattle.std.proofs.lemmas.Nat.{div-mul-add, mod-mul-add}
use Rattle.lanes.specs.Markers.{symbol_in, marker_bits}
use Rattle.lanes.specs.Rates.{Layout}
use Rattle.pairs.specs.Messages.{message_with, symbol_bits, marker_block_symbol, marker_lane}
use Rattle.pairs.proofs.Messaged.{with_none}
use Rattle.pairs.proofs.Opened.{symbol_put}
use Rattle.pairs.proofs.message.Message.push_markers.Goals as goal

pub loop-row-init : goal.loop-row-init
unfolding symbol_bits
loop-row-init g c = with_none c.args.self.now ∙ ap (λ (n : ℕ). message_with c.args.self.now (symbol_bits n (marker_block_symbol g.R.Rate.layout))) (sym (zero-mul g.R.Rate.layout.lanes))

pub loop-column-init : goal.loop-column-init
loop-column-init g c =
    let r : Layout = g.R.Rate.layout in
    c.loop-row.invariant ∙ ap (λ (n : ℕ). message_with c.args.self.now (symbol_bits n (marker_block_symbol r))) (sym (add-zero (c.loop-row.row * r.lanes)))

pub loop-column-preserved : goal.loop-column-preserved
unfolding marker_block_symbol
loop-column-preserved g c =
    let r : Layout = g.R.Rate.layout in
    let row : ℕ = c.loop-row.row in
    let column : ℕ = c.loop-column.column in
    let m : ℕ = row * r.lanes + column in
    let w : c.lane_count-column-end.result ≡ r.lanes = c.lane_count-column-end.ensures in
    let at : ℕ → ℕ → ℕ = λ l k. symbol_in (marker_bits r l) k in
    let e : c.from.result ≡ at (marker_lane (m / r.lanes) (m % r.lanes)) (m / r.lanes) =
    c.from.ensures ∙ c.marker_symbol-symbol.ensures ∙ ap (λ (l : ℕ). at l row) c.marker_lane.ensures
    ∙ ap₂ (λ (k l : ℕ). at (marker_lane k l) k) (sym (div-mul-add row r.lanes column (omega arith))) (sym (mod-mul-add row r.lanes column (omega arith))) in
    symbol_put (marker_block_symbol r) m c.from.result c.args.self.now c.loop-column.self c.push_bits.new.self e c.loop-column.invariant c.push_bits.ensures
    ∙ ap (λ (k : ℕ). message_with c.args.self.now (symbol_bits k (marker_block_symbol r))) (omega arith)

pub loop-row-preserved : goal.loop-row-preserved
loop-row-preserved g c =
    let r : Layout = g.R.Rate.layout in
    let row : ℕ = c.loop-row.row in
    let n : c.loop-column.column ≡ r.lanes = omega (arith, c.lane_count-column-end.ensures) in
    c.loop-column.invariant
    ∙ ap (λ (k : ℕ). message_with c.args.self.now (symbol_bits k (marker_block_symbol r))) (ap (λ (l : ℕ). row * r.lanes + l) n ∙ sym (ap (λ (i : ℕ). i * r.lanes) (add-one row) ∙ suc-mul row r.lanes))

pub returns : goal.returns
returns g c =
    let r : Layout = g.R.Rate.layout in
    let n : c.loop-row.row ≡ 12 = omega arith in
    c.loop-row.invariant ∙ ap (λ (i : ℕ). message_with c.args.self.now (symbol_bits (i * r.lanes) (marker_block_symbol r))) n
