use Rattle.std.proofs.Common.{◌≡◌, ℕ, ◌+◌, ◌/◌, ◌^◌, ◌<◌, false, None, Some, refl, sym, ap, ◌∙◌, ap₂, arith, rules}
use Rattle.std.proofs.lemmas.Nat.Bits.{bit_at-trailing_zeros}
use Rattle.std.specs.Int.{trailing_zeros}
use mir.Syntax.{w32}
use Rattle.bits.specs.Bits.{bit}
use Rattle.receiver.specs.Refusals.{accepted_word, stray_bit, word_or}
use Rattle.receiver.proofs.Stray.{stray_none, stray_some}
use Rattle.receiver.proofs.refusal.accept.Goals as goal

pub returns-then-ready : goal.returns-then-ready
unfolding accepted_word
returns-then-ready g c = rw c.if-ready.true

pub returns-then-above-gt0 : goal.returns-then-above-gt0
unfolding accepted_word
returns-then-above-gt0 g c =
    let lanes : ℕ = c.lane_count-lanes.result in
    let above : ℕ = c.args.word / 2 ^ lanes in
    let z = bit_at-trailing_zeros w32 above (omega arith) (omega arith) in
    let n : stray_bit g.R.Rate.layout.lanes c.args.word ≡ Some (lanes + trailing_zeros w32 above) =
    ap (λ (l : ℕ). stray_bit l c.args.word) (sym c.lane_count-lanes.ensures) ∙ stray_some lanes c.args.word (trailing_zeros w32 above) (omega arith) z.1 z.2 in
    rw (c.if-ready.false, n) refl

pub returns : goal.returns
unfolding accepted_word
returns g c =
    let lanes : ℕ = c.lane_count-lanes.result in
    let z : c.args.word / 2 ^ lanes ≡ 0 = omega arith in
    let n : stray_bit g.R.Rate.layout.lanes c.args.word ≡ None = ap (λ (l : ℕ). stray_bit l c.args.word) (sym c.lane_count-lanes.ensures) ∙ stray_none lanes c.args.word z in
    rw (c.if-ready.false, n) refl
