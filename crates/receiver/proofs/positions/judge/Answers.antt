use Rattle.std.proofs.Common.{◌≡◌, ℕ, ◌≤◌, length, sym, ap, ◌∙◌, subst, arith, rules, List, Ok, Err}
use Rattle.std.proofs.lemmas.Result.{err_from_is_err_and}
use Rattle.lanes.specs.Rates.{marker_period}
use Rattle.lanes.specs.declared.lock.Lock.{Lock}
use Rattle.receiver.specs.Hunts.{last_lock}
use Rattle.receiver.specs.Pending.{locks_later}
use Rattle.receiver.specs.Positions.{lock_at, locks_after, just_locked}
use Rattle.receiver.specs.Skews.{ticks_left}
use Rattle.receiver.proofs.Advancing.{judged_five, judged_err, judged_ok, after_near, length-after, length-later}
use Rattle.receiver.proofs.positions.judge.Goals as goal

pub returns-in_err-just-clause-told : goal.returns-in_err-just-clause-told
returns-in_err-just-clause-told g c =
    let p = err_from_is_err_and c.from_residual.result c.from_residual.ensures.1 in
    let m = c.in_err-just.ensures in
    rw (p.1, p.2) (judged_five g.R.Rate.layout c.args.ring.now (locks_later c.args.pending c.args.positions.now) c.args.ticks m.0 c.in_err-just.field-0.0 m.1 m.2)

pub judge_lock-requires : goal.judge_lock-requires
judge_lock-requires g c =
    let r = g.R.Rate.layout in
    let xs : List Lock = c.args.positions.now in
    let n : ℕ = c.args.pending in
    let e : c.advance_all.new.positions ≡ locks_after r c.args.ring.now (locks_later n xs) = c.in_ok-just.ensures.2 in
    record { near = λ i l. rw e (after_near r c.args.ring.now n xs c.requires.near i (omega (arith, ap length e, length-after r c.args.ring.now (locks_later n xs), length-later n xs))) }

pub returns-in_err-judge_lock-clause-told : goal.returns-in_err-judge_lock-clause-told
returns-in_err-judge_lock-clause-told g c =
    let r = g.R.Rate.layout in
    let locks = locks_later c.args.pending c.args.positions.now in
    let m = c.in_ok-just.ensures in
    let p = err_from_is_err_and c.from_residual-in_err-judge_lock.result c.from_residual-in_err-judge_lock.ensures.1 in
    let e : last_lock (marker_period r) (locks_after r c.args.ring.now locks) c.args.ticks (just_locked r c.args.ring.now locks) ≡ Err c.in_err-judge_lock.field-0.0 =
    rw (← m.2, ← m.1) (sym c.in_err-judge_lock.ensures) in
    rw (p.1, p.2) (judged_err r c.args.ring.now locks c.args.ticks m.0 c.in_err-judge_lock.field-0.0 e)

pub returns-clause-told : goal.returns-clause-told
returns-clause-told g c =
    let r = g.R.Rate.layout in
    let locks = locks_later c.args.pending c.args.positions.now in
    let m = c.in_ok-just.ensures in
    let e : last_lock (marker_period r) (locks_after r c.args.ring.now locks) c.args.ticks (just_locked r c.args.ring.now locks) ≡ Ok c.in_ok-judge_lock.field-0 =
    rw (← m.2, ← m.1) (sym c.judge_lock.ensures ∙ c.in_ok-judge_lock.was) in
    judged_ok r c.args.ring.now locks c.args.ticks m.0 c.in_ok-judge_lock.field-0 e
