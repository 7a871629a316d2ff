use Rattle.std.proofs.Common.{ℕ, ◌+◌, ◌-◌, ◌≡◌, ◌≤◌, List, ◌++◌, ap, ◌∙◌, sym, arith, length, take}
use Rattle.std.proofs.lemmas.List.{length-take-le}
use Rattle.bits.specs.Bits.{field}
use Rattle.bits.proofs.Fields.{take-field}
use Rattle.pairs.specs.Messages.{message_with}
use Rattle.pairs.proofs.message.Message.push_bits.Goals as goal

-- of n bits as many as there is room for
as_many : (bits : List ℕ) (x m n : ℕ) → m ≡ 10280 - length bits → m ≤ n → message_with bits (field x 0 m) ≡ message_with bits (field x 0 n)
as_many bits x m n e l =
    let whole : take m (field x 0 m) ≡ field x 0 m = ap (λ (j : ℕ). take m (field x 0 j)) (omega arith) ∙ take-field x 0 m 0 in
    let part : take m (field x 0 n) ≡ field x 0 m = ap (λ (j : ℕ). take m (field x 0 j)) (omega arith) ∙ take-field x 0 m (n - m) in
    ap (λ (k : ℕ). bits ++ take k (field x 0 m)) (sym e) ∙ ap (λ (l : List ℕ). bits ++ l) (whole ∙ sym part) ∙ ap (λ (k : ℕ). bits ++ take k (field x 0 n)) e

pub returns-else-self-n-le-MESSAGE_BITS : goal.returns-else-self-n-le-MESSAGE_BITS
returns-else-self-n-le-MESSAGE_BITS c =
    let here = c.self.inside in
    let there = c.fill-else-self-n-le-MESSAGE_BITS.inside in
    let size : length (take here.len here.bits) ≡ here.len = length-take-le here.len here.bits (omega (arith, c.self.invariant.0, c.self.told)) in
    let same : length (take there.len there.bits) ≡ there.len =
    length-take-le there.len there.bits (omega (arith, c.fill-else-self-n-le-MESSAGE_BITS.invariant.0, c.fill-else-self-n-le-MESSAGE_BITS.told)) in
    let known = ap length c.self.view_is in
    let again = ap length c.fill-else-self-n-le-MESSAGE_BITS.view_is in
    c.fill-else-self-n-le-MESSAGE_BITS-2.ensures
    ∙ as_many c.args.self.now c.args.x (10280 - there.len) c.args.n (omega (arith, same, again)) (omega (arith, size, known, same, again, c.if-self-n-le-MESSAGE_BITS.false))
