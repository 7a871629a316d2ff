use Rattle.std.proofs.Common.{◌≡◌, ℕ, ◌+◌, ◌*◌, ◌/◌, List, [], ◌∷◌, ◌++◌, length, drop, sym, refl, ap, ◌∙◌, arith, rules, length-append, length-drop}
use Rattle.blocks.specs.Blocks.{blocks_in}
use Rattle.blocks.specs.Calls.{four_refused}
use Rattle.blocks.specs.Groups.{bits_of, group_bits}
use Rattle.blocks.specs.Memories.{out_memory}
use Rattle.blocks.specs.Scrambled.{stream_bits, stream_after, scrambled_bits, scrambler_after}
use Rattle.blocks.specs.declared.block.Block.{Block}
use Rattle.sender.specs.States.{blocks_of}
use Rattle.pairs.specs.Messages.{message_with, group_at, group_stream}
use Rattle.sender.proofs.Grouping.{no_bad_kind, four_blocks, next, grouped_ok, grouped_bits, memory_more, group_more}
use Rattle.pairs.proofs.Messaged.{with_none}
use Rattle.pairs.proofs.Streams.{blocks_group}
use Rattle.sender.proofs.send.put_groups.Goals as goal

pub loop-four-init : goal.loop-four-init
unfolding group_stream stream_bits stream_after
loop-four-init c = record {
  can_next = search rules;
  is_finite = tt;
  size = search rules;
  rest = search rules;
  inside = omega arith;
  bits = with_none c.args.message.now;
  memory = refl;
}

pub unwrap-group-requires : goal.unwrap-group-requires
unwrap-group-requires c =
    let records : List ℕ = c.args.records.now in
    let inv = c.loop-four.invariant in
    let steps = c.in-Some.ensures.steps in
    let four = next inv.rest inv.inside steps.1.0 (steps.1.1 ∙ inv.size) in
    grouped_ok c.in-Some.four.now c.group_of.result c.group_of.ensures
    (ap four_refused four.four_is ∙ no_bad_kind records (length c.loop-four.yielded) four.room c.requires)

pub loop-four-preserved : goal.loop-four-preserved
loop-four-preserved c =
    let records : List ℕ = c.args.records.now in
    let g : ℕ = length c.loop-four.yielded in
    let inv = c.loop-four.invariant in
    let steps = c.in-Some.ensures.steps in
    let four = next inv.rest inv.inside steps.1.0 (steps.1.1 ∙ inv.size) in
    let room = four.room in
    let more : length (c.loop-four.yielded ++ c.in-Some.four ∷ []) ≡ g + 1 = length-append c.loop-four.yielded _ in
    let n : ℕ = length records / 36 in
    let bs : List Block = blocks_of n records in
    let group : List ℕ = bits_of c.unwrap-group.result in
    let m : List ℕ = out_memory c.args.scrambler.now in
    let memory : List ℕ = out_memory c.loop-four.scrambler in
    let is : group ≡ group_bits (group_at bs g) =
    grouped_bits c.in-Some.four.now c.group_of.result c.unwrap-group.result c.unwrap-group.ensures c.group_of.ensures
    ∙ ap (λ (xs : List ℕ). group_bits (blocks_in 4 xs)) four.four_is
    ∙ ap group_bits (four_blocks records g room ∙ sym (blocks_group n g records (omega arith))) in
    record {
      can_next = search rules;
      is_finite = tt;
      size = steps.0 ∙ inv.size;
      rest = four.behind_is ∙ ap (λ (k : ℕ). drop (36 * k) records) (sym more);
      inside = omega arith;
      bits = group_more bs g m memory group (bits_of c.scramble.result) inv.memory is c.args.message.now c.loop-four.message c.push_group.new.self c.scramble.ensures.out inv.bits c.push_group.ensures
          ∙ ap (λ (k : ℕ). message_with c.args.message.now (scrambled_bits m (group_stream bs k))) (sym more);
      memory = memory_more bs g m memory group (bits_of c.scramble.result) inv.memory is (out_memory c.scramble.new.self) c.scramble.ensures.after
          ∙ ap (λ (k : ℕ). scrambler_after m (group_stream bs k)) (sym more);
    }

pub returns : goal.returns
returns c =
    let records : List ℕ = c.args.records.now in
    let bs : List Block = blocks_of (length records / 36) records in
    let m : List ℕ = out_memory c.args.scrambler.now in
    let inv = c.loop-four.invariant in
    let g : ℕ = length c.loop-four.yielded in
    let all : g ≡ length records / 36 = omega (arith, c.in-None.ensures.steps.1.0, inv.size, ap length inv.rest, length-drop (36 * g) records) in
    record {
      bits = inv.bits ∙ ap (λ (k : ℕ). message_with c.args.message.now (scrambled_bits m (group_stream bs k))) all;
      memory = inv.memory ∙ ap (λ (k : ℕ). scrambler_after m (group_stream bs k)) all;
    }
