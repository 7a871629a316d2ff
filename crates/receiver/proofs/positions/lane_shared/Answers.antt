use Rattle.std.proofs.Common.{◌≡◌, ℕ, length, sym, refl, ap, ◌∙◌, arith, rules}
use Rattle.bits.specs.Lowest.{lowest}
use Rattle.bits.proofs.Lowest.{lowest_past, lowest-found}
use Rattle.receiver.specs.Positions.{lane_shared, shares_lane}
use Rattle.receiver.proofs.positions.lane_shared.Goals as goal

pub loop-i-init : goal.loop-i-init
unfolding lowest
loop-i-init c = refl

pub loop-i-preserved : goal.loop-i-preserved
loop-i-preserved c = lowest_past (shares_lane c.args.positions.now) c.loop-i.i c.loop-i.invariant (sym c.shares_lane.ensures ∙ c.if-shares_lane.false)

pub returns-then-shares_lane : goal.returns-then-shares_lane
unfolding lane_shared
returns-then-shares_lane c =
    sym (lowest-found (shares_lane c.args.positions.now) c.loop-i.i (length c.args.positions.now) (omega arith) c.loop-i.invariant (sym c.shares_lane.ensures ∙ c.if-shares_lane.true))

pub returns : goal.returns
unfolding lane_shared
returns c =
    let e : c.loop-i.i ≡ length c.args.positions.now = omega arith in
    sym (ap (lowest (shares_lane c.args.positions.now)) (sym e) ∙ c.loop-i.invariant)
