-- The words passed, and those still to come as they were.
use Rattle.std.proofs.Common.{◌≡◌, ℕ, ◌≤◌, length, get_or}
use Rattle.blocks.specs.Groups.{one_if}
use Rattle.blocks.specs.Scrambled.{memory_in, stream_bits, stream_after}
use Rattle.blocks.proofs.Passing.{Passed}
use Rattle.blocks.proofs.scramble.pass.Given as goal

abbrev pub invariant-loop-x : goal.invariant-loop-x
invariant-loop-x g l = record {
  passed : Passed (stream_bits g.D.Direction.kept) (stream_after g.D.Direction.kept) (memory_in l.fn.memory) (one_if l.fn.group.first) (one_if l.first) l.initial.x-items l.x-items (memory_in l.memory) l.x-index;
  size : length l.x-items ≡ 4;
  rest : (k : ℕ) → l.x-index ≤ k → get_or l.x-items k 0 ≡ get_or l.initial.x-items k 0;
}
