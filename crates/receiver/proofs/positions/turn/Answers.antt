use Rattle.std.proofs.Common.{◌≡◌, ℕ, length, List, Err, replicate, sym, ap, ◌∙◌, arith, rules}
use Rattle.lanes.specs.declared.lock.Lock.{Lock}
use Rattle.lanes.specs.declared.lock.Lock.TheVariants.{Searching}
use Rattle.receiver.specs.Hunts.{judged, settled}
use Rattle.receiver.specs.Pending.{locks_later}
use Rattle.receiver.specs.Positions.{locks_after}
use Rattle.receiver.proofs.Advancing.{length-after, length-later}
use Rattle.receiver.proofs.positions.turn.Goals as goal

pub returns-in-Err-clause-positions : goal.returns-in-Err-clause-positions
returns-in-Err-clause-positions g c =
    let r = g.R.Rate.layout in
    let locks = locks_later c.args.pending c.args.positions.now in
    rw (← c.in-Err.ensures.told) (c.fill.ensures.after (λ y e. e)
    ∙ ap (λ (k : ℕ). replicate k Searching) (c.judge.ensures.count ∙ sym (length-later c.args.pending c.args.positions.now) ∙ sym (length-after r c.args.ring.now locks)))
