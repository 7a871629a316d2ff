use Rattle.std.proofs.Common.{◌≡◌, ℕ, ◌<◌, ◌≤◌, length, List, take, Some, get_or, refl, sym, subst, ap, ◌∙◌, arith, rules}
use Rattle.std.proofs.lemmas.List.{get_or-take}
use Rattle.std.proofs.lemmas.Bool.{lt-ltb, le-ltb}
use Rattle.lanes.specs.Rates.{marker_period}
use Rattle.lanes.specs.declared.lock.Lock.{Lock}
use Rattle.lanes.specs.declared.lock.Lock.TheVariants.{Searching}
use Rattle.receiver.specs.Hunts.{Hunt, position_ready}
use Rattle.receiver.specs.Pending.{lock_later, locks_later}
use Rattle.receiver.specs.Positions.{lock_at}
use Rattle.receiver.specs.Skews.{ticks_left}
use Rattle.receiver.proofs.Advancing.{later_at, length-later}
use Rattle.receiver.proofs.Quiet.{later_near}
use Rattle.receiver.proofs.hunting.Hunting.position.Goals as goal

pub returns-then-not-self-clause-position : goal.returns-then-not-self-clause-position
unfolding position_ready
returns-then-not-self-clause-position g c = rw (← c.self.view_is) (rw c.if-not-self.true refl)

pub returns-then-index-lane_count-clause-position : goal.returns-then-index-lane_count-clause-position
unfolding position_ready
returns-then-index-lane_count-clause-position g c =
    let r = g.R.Rate.layout in
    let s = c.self.inside in
    let room = c.self.invariant.count in
    let long = length-later s.pending (take r.lanes s.locks) ∙ room in
    let past = le-ltb c.args.index (length (locks_later s.pending (take r.lanes s.locks))) (omega arith) in
    rw (← c.self.view_is) (rw (c.if-not-self.false, past) refl)

pub returns-clause-position : goal.returns-clause-position
unfolding position_ready
returns-clause-position g c =
    let r = g.R.Rate.layout in
    let s = c.self.inside in
    let room = c.self.invariant.count in
    let long = length-later s.pending (take r.lanes s.locks) ∙ room in
    let inside = lt-ltb c.args.index (length (locks_later s.pending (take r.lanes s.locks))) (omega arith) in
    let here : lock_at (locks_later s.pending (take r.lanes s.locks)) c.args.index ≡ c.later.result =
    later_at s.pending (take r.lanes s.locks) c.args.index ∙ ap (lock_later s.pending) (get_or-take r.lanes s.locks c.args.index Searching (omega arith)) ∙ sym c.later.ensures in
    rw (← c.self.view_is) (rw (c.if-not-self.false, inside, here) refl)

pub returns-clause-near : goal.returns-clause-near
returns-clause-near g c =
    let r = g.R.Rate.layout in
    let s = c.self.inside in
    let room = c.self.invariant.count in
    let at = get_or-take r.lanes s.locks c.args.index Searching (omega arith) in
    let near : ticks_left (lock_at s.locks c.args.index) ≤ marker_period r = subst (λ (x : Lock). ticks_left x ≤ marker_period r) at (c.self.invariant.near c.args.index (omega arith)) in
    rw c.later.ensures (later_near s.pending (marker_period r) (lock_at s.locks c.args.index) near)
