use Rattle.std.proofs.Common.{◌≡◌, ◌+◌, ◌*◌}
use Rattle.pairs.specs.Messages.{message_with, symbol_bits, marker_block_symbol}
use Rattle.pairs.proofs.message.Message.push_markers.Given as goal

abbrev pub invariant-loop-row : goal.invariant-loop-row
invariant-loop-row g l = l.self ≡ message_with l.initial.self (symbol_bits (l.row * g.R.Rate.layout.lanes) (marker_block_symbol g.R.Rate.layout))

abbrev pub invariant-loop-column : goal.invariant-loop-column
invariant-loop-column g l = l.self ≡ message_with l.fn.self (symbol_bits (l.row * g.R.Rate.layout.lanes + l.column) (marker_block_symbol g.R.Rate.layout))
