use Rattle.std.proofs.Common.{◌≡◌, ℕ, ◌<◌, ◌≤◌, Bool, true, false, None, Some, List, length, get_or, sym, refl, ap, ◌∙◌, subst, arith, rules}
use Rattle.std.proofs.lemmas.Result.{err_from_is_err_and}
use Rattle.bits.specs.Lowest.{lowest}
use Rattle.bits.proofs.Lowest.{lowest_past, lowest-found}
use Rattle.lanes.specs.Locks.{next_lock, lock_event}
use Rattle.lanes.specs.declared.lock.Lock.{Lock}
use Rattle.lanes.specs.declared.lock.Lock.TheVariants.{Searching}
use Rattle.lanes.specs.declared.lock.Event.{Event}
use Rattle.receiver.specs.Pending.{lock_later, locks_later}
use Rattle.receiver.specs.Positions.{passes_at, event_at, is_fifth_failure, is_lock, failed_five, just_locked}
use Rattle.receiver.proofs.Advancing.{moved_later, event_later, length-later}
use Rattle.receiver.proofs.Moving.{moved_none, moved_more, moved_all, lowest_more}
use Rattle.receiver.proofs.Quiet.{fault_err, fault_ok}
use Rattle.receiver.proofs.positions.advance_all.Goals as goal

pub loop-i-init : goal.loop-i-init
unfolding lowest
loop-i-init g c = record { moved = moved_none _ _ _; lasts = refl; locks = refl }

pub loop-i-preserved : goal.loop-i-preserved
loop-i-preserved g c =
    let r = g.R.Rate.layout in
    let ring : List ℕ = c.args.ring.now in
    let n : ℕ = c.args.pending in
    let xs : List Lock = c.args.positions.now in
    let i : ℕ = c.loop-i.i in
    let inside : i < length xs = c.loop-i-test.true in
    let same : get_or c.loop-i.positions i Searching ≡ get_or xs i Searching = c.loop-i.invariant.moved.stays i (omega arith) in
    let event : c.advance-event.result ≡ event_at r ring (locks_later n xs) i =
    c.advance-event.ensures.event ∙ ap (lock_event r (passes_at r ring i)) (c.later-lock.ensures ∙ ap (lock_later n) same) ∙ event_later r ring n xs i in
    let ok = fault_ok c.advance-event.result i c.args.ticks c.in_ok-event.event (sym c.or_fault.ensures ∙ c.in_ok-event.was) in
    record {
      moved = moved_more Searching i (λ i lock. next_lock r (passes_at r ring i) (lock_later n lock)) xs c.loop-i.positions c.advance-event.new.lock inside c.loop-i.invariant.moved
          (c.advance-event.ensures.state ∙ ap (next_lock r (passes_at r ring i)) c.later-lock.ensures);
      lasts = lowest_past (λ i. is_fifth_failure (event_at r ring (locks_later n xs) i)) i c.loop-i.invariant.lasts (ap is_fifth_failure (sym event) ∙ ok.0);
      locks = c.first-just.ensures ∙ lowest_more (λ i. is_lock (event_at r ring (locks_later n xs) i)) i _ _ c.loop-i.invariant.locks (c.locks.ensures ∙ ap is_lock (ok.1 ∙ event));
    }

pub returns-in_err-event : goal.returns-in_err-event
unfolding failed_five
returns-in_err-event g c =
    let r = g.R.Rate.layout in
    let ring : List ℕ = c.args.ring.now in
    let n : ℕ = c.args.pending in
    let xs : List Lock = c.args.positions.now in
    let i : ℕ = c.loop-i.i in
    let same : get_or c.loop-i.positions i Searching ≡ get_or xs i Searching = c.loop-i.invariant.moved.stays i (omega arith) in
    let event : c.advance-event.result ≡ event_at r ring (locks_later n xs) i =
    c.advance-event.ensures.event ∙ ap (lock_event r (passes_at r ring i)) (c.later-lock.ensures ∙ ap (lock_later n) same) ∙ event_later r ring n xs i in
    let err = fault_err c.advance-event.result i c.args.ticks c.in_err-event.field-0.0 (sym c.in_err-event.ensures) in
    let p = err_from_is_err_and c.from_residual.result c.from_residual.ensures.1 in
    let at : lowest (λ i. is_fifth_failure (event_at r ring (locks_later n xs) i)) (length (locks_later n xs)) ≡ Some i =
    lowest-found (λ i. is_fifth_failure (event_at r ring (locks_later n xs) i)) i (length (locks_later n xs)) (omega (arith, length-later n xs)) c.loop-i.invariant.lasts (ap is_fifth_failure (sym event) ∙ err.0) in
    rw (p.1, p.2) (i, at, err.1)

pub returns : goal.returns
unfolding failed_five just_locked
returns g c =
    let r = g.R.Rate.layout in
    let ring : List ℕ = c.args.ring.now in
    let n : ℕ = c.args.pending in
    let xs : List Lock = c.args.positions.now in
    let e : c.loop-i.i ≡ length (locks_later n xs) = omega (arith, length-later n xs) in (
      ap (lowest (λ i. is_fifth_failure (event_at r ring (locks_later n xs) i))) (sym e) ∙ c.loop-i.invariant.lasts,
      c.loop-i.invariant.locks ∙ ap (lowest (λ i. is_lock (event_at r ring (locks_later n xs) i))) e,
      moved_all Searching c.loop-i.i (λ i lock. next_lock r (passes_at r ring i) (lock_later n lock)) xs c.loop-i.positions (omega arith) c.loop-i.invariant.moved ∙ moved_later r ring n xs,
    )
