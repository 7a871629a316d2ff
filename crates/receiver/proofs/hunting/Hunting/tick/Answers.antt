use Rattle.std.proofs.Common.{◌≡◌, ℕ, ◌+◌, ◌<◌, ◌≤◌, false, length, subst, take, List, Ok, Err, refl, sym, ap, ◌∙◌, arith, rules}
use Rattle.std.proofs.lemmas.Result.{err_from_is_err_and}
use Rattle.lanes.specs.declared.lock.Lock.{Lock}
use Rattle.receiver.specs.Counts.{one_more}
use Rattle.receiver.specs.Hunts.{Hunt, judged, settled, is_ready}
use Rattle.receiver.specs.Pending.{Pends, locks_later, ticks_to_test}
use Rattle.receiver.specs.Positions.{lock_at, locks_after}
use Rattle.receiver.specs.Recent.{heard}
use Rattle.receiver.specs.declared.told.Told.TheVariants.{Quiet}
use Rattle.receiver.proofs.Lawful.{hunt_laws}
use Rattle.receiver.proofs.Ticking.{accepted_so, refused_after, refused_answer, ticked, tick_told, quiet_after, quiet_judged, settled_near, length-settled, all_later_none}
use Rattle.receiver.proofs.hunting.Hunting.tick.Goals as goal

pub returns-in_err-word-clause-receiver : goal.returns-in_err-word-clause-receiver
returns-in_err-word-clause-receiver g c =
    let r = g.R.Rate.layout in
    rw (← c.self.view_is) (sym (refused_after r _ c.args.word c.in_err-word.field-0.0 (sym c.in_err-word.ensures)))

pub returns-in_err-word-clause-answer : goal.returns-in_err-word-clause-answer
returns-in_err-word-clause-answer g c =
    let r = g.R.Rate.layout in
    let p = err_from_is_err_and c.from_residual.result c.from_residual.ensures.1 in
    rw (p.1, p.2, ← c.self.view_is) (sym (refused_answer r _ c.args.word c.in_err-word.field-0.0 (sym c.in_err-word.ensures)))

pub returns-then-self-clause-receiver : goal.returns-then-self-clause-receiver
returns-then-self-clause-receiver g c =
    let r = g.R.Rate.layout in
    let s = c.self.inside in
    let xs : List Lock = take r.lanes s.locks in
    let h : Hunt = record { recent = s.ring; locks = locks_later s.pending xs; ticks = s.ticks; ready = s.ready } in
    let w : ℕ = c.in_ok-word.word in
    let fine = accepted_so r.lanes s.ready c.args.word w (sym c.in_ok-word.ensures) in
    let quiet = quiet_judged r c.push.new.self s.pending s.due xs c.if-self.true c.self.invariant.tests c.saturating_add-self-inside.result in
    let after = quiet_after r c.push.new.self s.pending s.due xs c.if-self.true c.self.invariant.tests in
    rw (← c.self.view_is) (ticked r h c.args.word w (sym c.in_ok-word.ensures) c.push.new.self (locks_later (s.pending + 1) xs) c.saturating_add-self-inside.result s.ready
    c.push.ensures c.saturating_add-self-inside.ensures (rw quiet (sym after)) (rw quiet fine.0))

pub returns-then-self-clause-answer : goal.returns-then-self-clause-answer
returns-then-self-clause-answer g c =
    let r = g.R.Rate.layout in
    let s = c.self.inside in
    let xs : List Lock = take r.lanes s.locks in
    let h : Hunt = record { recent = s.ring; locks = locks_later s.pending xs; ticks = s.ticks; ready = s.ready } in
    let quiet = quiet_judged r c.push.new.self s.pending s.due xs c.if-self.true c.self.invariant.tests c.saturating_add-self-inside.result in
    rw (← c.self.view_is) (tick_told r h c.args.word c.in_ok-word.word (sym c.in_ok-word.ensures) c.push.new.self c.saturating_add-self-inside.result Quiet
    c.push.ensures c.saturating_add-self-inside.ensures (rw quiet refl))

pub invariant_of-self-2 : goal.invariant_of-self-2
invariant_of-self-2 g c =
    let r = g.R.Rate.layout in
    let s = c.self.inside in
    let xs : List Lock = take r.lanes s.locks in
    let ys : List Lock = take r.lanes c.turn_first-told.new.locks in
    let e : c.lane_count.result ≡ r.lanes = c.lane_count.ensures in
    let j = judged r c.push.new.self (locks_later s.pending xs) c.saturating_add-self-inside.result in
    let settles : ys ≡ settled j (locks_after r c.push.new.self (locks_later s.pending xs)) = c.turn_first-told.ensures.positions in
    record {
      count = ap length settles ∙ length-settled r c.push.new.self s.pending xs c.self.invariant.near j ∙ c.self.invariant.count;
      early = c.nearest-self-inside.ensures.some;
      tests = subst (λ (n : ℕ). (i : ℕ) → i < length (take n c.turn_first-told.new.locks) → c.nearest-self-inside.result ≤ ticks_to_test (lock_at (take n c.turn_first-told.new.locks) i)) e c.nearest-self-inside.ensures.tests;
      near = λ i l. rw settles (settled_near r c.push.new.self s.pending xs c.self.invariant.near j i (omega (arith, ap length settles, length-settled r c.push.new.self s.pending xs c.self.invariant.near j)));
    }

pub returns-clause-receiver : goal.returns-clause-receiver
returns-clause-receiver g c =
    let r = g.R.Rate.layout in
    let s = c.self.inside in
    let xs : List Lock = take r.lanes s.locks in
    let h : Hunt = record { recent = s.ring; locks = locks_later s.pending xs; ticks = s.ticks; ready = s.ready } in
    rw (← c.self.view_is) (ticked r h c.args.word c.in_ok-word.word (sym c.in_ok-word.ensures) c.push.new.self (locks_later 0 (take r.lanes c.turn_first-told.new.locks)) c.saturating_add-self-inside.result c.is_ready-self-inside.result
    c.push.ensures c.saturating_add-self-inside.ensures (all_later_none (take r.lanes c.turn_first-told.new.locks) ∙ c.turn_first-told.ensures.positions) (c.is_ready-self-inside.ensures ∙ ap is_ready c.turn_first-told.ensures.told))

pub returns-clause-answer : goal.returns-clause-answer
returns-clause-answer g c =
    let r = g.R.Rate.layout in
    let s = c.self.inside in
    let xs : List Lock = take r.lanes s.locks in
    let h : Hunt = record { recent = s.ring; locks = locks_later s.pending xs; ticks = s.ticks; ready = s.ready } in
    rw (← c.self.view_is) (tick_told r h c.args.word c.in_ok-word.word (sym c.in_ok-word.ensures) c.push.new.self c.saturating_add-self-inside.result c.turn_first-told.result
    c.push.ensures c.saturating_add-self-inside.ensures c.turn_first-told.ensures.told)

pub returns-in_err-word-clause-laws : goal.returns-in_err-word-clause-laws
returns-in_err-word-clause-laws g c = hunt_laws g.R.Rate.layout

pub returns-then-self-clause-laws : goal.returns-then-self-clause-laws
returns-then-self-clause-laws g c = hunt_laws g.R.Rate.layout

pub returns-clause-laws : goal.returns-clause-laws
returns-clause-laws g c = hunt_laws g.R.Rate.layout
