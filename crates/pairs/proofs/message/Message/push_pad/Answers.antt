use Rattle.std.proofs.Common.{ℕ, List, refl, ap, ◌∙◌}
use Rattle.bits.specs.Bits.{field, table, nth}
use Rattle.bits.proofs.Binary.{binary_field}
use Rattle.lanes.specs.Pads.{pad_before, pad_memory}
use Rattle.pairs.specs.Messages.{message_with}
use Rattle.pairs.proofs.Messaged.{with_none}
use Rattle.pairs.proofs.Opened.{memory_more, pad_put}
use Rattle.pairs.proofs.message.Message.push_pad.Goals as goal

pub loop-init : goal.loop-init
unfolding table field pad_before
loop-init c = record { bits = with_none c.args.self.now; memory = refl }

pub loop-preserved : goal.loop-preserved
loop-preserved c =
    let past : ℕ → ℕ = nth (pad_memory c.args.pad.now) in
    let i : ℕ = c.loop.counter in
    let memory : List ℕ = pad_memory c.loop.pad in
    let old : List ℕ = c.loop.self in
    record {
      bits = pad_put past i memory c.loop.invariant.memory c.args.self.now old c.push_bits.new.self c.next-bit.result (binary_field c.args.pad.now.memory 0 9) c.loop.invariant.bits c.next-bit.ensures.bit
          (c.push_bits.ensures ∙ ap (λ (x : ℕ). message_with old (field x 0 1)) c.from.ensures);
      memory = memory_more past i memory c.loop.invariant.memory (pad_memory c.next-bit.new.self) c.next-bit.ensures.memory;
    }
