use Rattle.std.proofs.Common.{◌≡◌, ◌<◌, ◌∙◌, None, ap, arith, rules}
use Rattle.lanes.specs.Locks.{tested, next_lock, lock_event}
use Rattle.receiver.specs.Positions.{passes_at}
use Rattle.receiver.specs.Skews.{ticks_left}
use Rattle.receiver.proofs.Quiet.{unread_lock, unread_event}
use Rattle.receiver.proofs.positions.advance.Goals as goal

pub returns-then-ticks_left-gt1 : goal.returns-then-ticks_left-gt1
returns-then-ticks_left-gt1 g c =
    let r = g.R.Rate.layout in
    let far : 1 < ticks_left c.args.lock.now = omega arith in
    record {
      state = c.step.ensures.state ∙ unread_lock r (tested r None) (passes_at r c.args.ring.now c.args.position) c.args.lock.now far;
      event = c.step.ensures.event ∙ unread_event r (tested r None) (passes_at r c.args.ring.now c.args.position) c.args.lock.now far;
    }

pub returns : goal.returns
returns g c =
    let r = g.R.Rate.layout in
    record {
      state = c.step-2.ensures.state ∙ ap (λ (w : _). next_lock r (tested r w) c.args.lock.now) c.window.ensures;
      event = c.step-2.ensures.event ∙ ap (λ (w : _). lock_event r (tested r w) c.args.lock.now) c.window.ensures;
    }
