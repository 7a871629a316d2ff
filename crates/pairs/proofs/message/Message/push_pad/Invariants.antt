use Rattle.std.proofs.Common.{◌≡◌}
use Rattle.bits.specs.Bits.{table, nth}
use Rattle.lanes.specs.Pads.{pad_before, pad_bit, pad_memory}
use Rattle.pairs.specs.Messages.{message_with}
use Rattle.pairs.proofs.message.Message.push_pad.Given as goal

abbrev pub invariant-loop : goal.invariant-loop
invariant-loop l = record {
  bits : l.self ≡ message_with l.initial.self (table l.counter (pad_bit (nth (pad_memory l.initial.pad))));
  memory : pad_memory l.pad ≡ table 9 (pad_before (nth (pad_memory l.initial.pad)) l.counter);
}
