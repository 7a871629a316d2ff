use Rattle.std.proofs.Common.{◌≡◌, ℕ, Bool, Option, is_some, length, sym, refl, ap, ◌∙◌, arith, rules}
use Rattle.bits.specs.Lowest.{lowest}
use Rattle.bits.proofs.Lowest.{lowest_past, lowest-found}
use Rattle.receiver.specs.Positions.{shares_lane, is_twin}
use Rattle.receiver.proofs.positions.shares_lane.Goals as goal

pub loop-i-init : goal.loop-i-init
unfolding lowest
loop-i-init c = refl

pub loop-i-preserved : goal.loop-i-preserved
loop-i-preserved c = lowest_past (λ j. is_twin c.args.positions.now j c.args.position) c.loop-i.i c.loop-i.invariant (sym c.is_twin.ensures ∙ c.if-is_twin.false)

pub returns-then-is_twin : goal.returns-then-is_twin
unfolding shares_lane
returns-then-is_twin c =
    let f : ℕ → Bool = λ j. is_twin c.args.positions.now j c.args.position in
    sym (ap (λ (o : Option ℕ). is_some o) (lowest-found f c.loop-i.i (length c.args.positions.now) (omega arith) c.loop-i.invariant (sym c.is_twin.ensures ∙ c.if-is_twin.true)))

pub returns : goal.returns
unfolding shares_lane
returns c =
    let f : ℕ → Bool = λ j. is_twin c.args.positions.now j c.args.position in
    let e : c.loop-i.i ≡ length c.args.positions.now = omega arith in
    sym (ap (λ (o : Option ℕ). is_some o) (ap (lowest f) (sym e) ∙ c.loop-i.invariant))
