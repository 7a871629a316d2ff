use Rattle.std.proofs.Common.{◌≡◌, ◌*◌, ◌/◌, ◌≤◌, length, drop}
use Rattle.std.specs.Slice.Iter.{chunks_exact_rest, chunks_exact_size}
use Rattle.blocks.specs.Memories.{out_memory}
use Rattle.blocks.specs.Scrambled.{scrambled_bits, scrambler_after}
use Rattle.sender.specs.States.{blocks_of}
use Rattle.pairs.specs.Messages.{message_with, group_stream}
use Rattle.sender.proofs.send.put_groups.Given as goal

abbrev pub invariant-loop-four : goal.invariant-loop-four
invariant-loop-four l = record {
  can_next : (goal.iterator-loop-four).can_next l.four-iterator;
  is_finite : (goal.iterator-loop-four).is_finite l.four-iterator;
  size : chunks_exact_size l.four-iterator ≡ 36;
  rest : chunks_exact_rest l.four-iterator ≡ drop (36 * length l.yielded) l.records;
  inside : 36 * length l.yielded ≤ length l.records;
  bits : l.message ≡ message_with l.initial.message (scrambled_bits (out_memory l.initial.scrambler) (group_stream (blocks_of (length l.records / 36) l.records) (length l.yielded)));
  memory : out_memory l.scrambler ≡ scrambler_after (out_memory l.initial.scrambler) (group_stream (blocks_of (length l.records / 36) l.records) (length l.yielded));
}
