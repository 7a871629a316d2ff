use Rattle.std.proofs.Common.{ℕ, ◌+◌, ◌≡◌, ◌≤◌, List, ap, ◌∙◌, arith, length, take}
use Rattle.std.proofs.lemmas.List.{length-take-le}
use Rattle.bits.specs.Bits.{field}
use Rattle.pairs.specs.Messages.{message_with}
use Rattle.pairs.proofs.Messaged.{filled_view, filled_binary, filled_zero}
use Rattle.pairs.proofs.message.Message.fill.Goals as goal

pub invariant_of-self : goal.invariant_of-self
invariant_of-self c =
    let n : ℕ = c.self.inside.len in
    let end : ℕ = n + c.args.n in
    let begins : n ≤ end = omega arith in
    let size : length (take n c.self.inside.bits) ≡ n = length-take-le n c.self.inside.bits (omega (arith, c.self.invariant.0, c.self.told)) in
    let ends : end ≤ 10280 = omega (arith, c.requires.room, size, ap length c.self.view_is) in (
      ends,
      (
        filled_binary n end c.args.n c.args.x c.self.inside.bits c.put_bits.new.bits c.self.told begins ends c.put_bits.ensures c.self.invariant.1.0,
        filled_zero n end c.args.n c.args.x c.self.inside.bits c.put_bits.new.bits c.self.told begins ends c.put_bits.ensures c.self.invariant.1.1,
      ),
    )

pub returns : goal.returns
returns c =
    let n : ℕ = c.self.inside.len in
    let end : ℕ = n + c.args.n in
    let begins : n ≤ end = omega arith in
    let size : length (take n c.self.inside.bits) ≡ n = length-take-le n c.self.inside.bits (omega (arith, c.self.invariant.0, c.self.told)) in
    let ends : end ≤ 10280 = omega (arith, c.requires.room, size, ap length c.self.view_is) in
    filled_view n end c.args.n c.args.x c.self.inside.bits c.put_bits.new.bits c.self.told begins ends c.put_bits.ensures
    (omega arith) (λ l. omega arith)
    ∙ ap (λ (bs : List ℕ). message_with bs (field c.args.x 0 c.args.n)) c.self.view_is
