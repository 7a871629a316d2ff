use Rattle.std.proofs.Common.{ℕ, List, ◌++◌, length, drop, Err, sym, ap, ◌∙◌}
use Rattle.std.proofs.lemmas.Result.{err_from_is_err_and}
use Rattle.std.proofs.lemmas.List.{take-append-drop}
use Rattle.lanes.specs.Rates.{Layout}
use Rattle.pairs.specs.Strips.{strip_of}
use Rattle.sender.specs.States.{SenderState, send_answer}
use Rattle.sender.specs.View.{state_of}
use Rattle.sender.proofs.Refused.{no_room, with_room, accepted, strip_stays, strip_sent, state_stays, state_sent}
use Rattle.sender.proofs.Returning.{sending}
use Rattle.sender.proofs.send.Sender.send.Goals as goal

pub returns-in_default-clause-answer : goal.returns-in_default-clause-answer
returns-in_default-clause-answer g c = ap send_answer (sym (no_room _ _ _ c.in_default.ensures.cases))

pub returns-in_default-clause-strip : goal.returns-in_default-clause-strip
returns-in_default-clause-strip g c = strip_stays g.R.Rate.layout (state_of c.args.self.now) c.args.records.now c.args.strip.now _ (no_room _ _ _ c.in_default.ensures.cases)

pub returns-in_default-clause-state : goal.returns-in_default-clause-state
returns-in_default-clause-state g c = state_stays g.R.Rate.layout (state_of c.args.self.now) c.args.records.now _ _ (no_room _ _ _ c.in_default.ensures.cases)

pub returns-in_default-clause-laws : goal.returns-in_default-clause-laws
returns-in_default-clause-laws g c = sending g.R.Rate.layout g.met.R.Rate.lawful

pub returns-in_err-check-clause-answer : goal.returns-in_err-check-clause-answer
returns-in_err-check-clause-answer g c =
    let p = err_from_is_err_and c.from_residual.result c.from_residual.ensures.1 in
    p.1 ∙ ap Err p.2 ∙ ap send_answer (sym (with_room _ _ _ c.in-Some.ensures.cases.enough ∙ c.in_err-check.ensures))

pub returns-in_err-check-clause-strip : goal.returns-in_err-check-clause-strip
returns-in_err-check-clause-strip g c =
    let strip : List ℕ = c.args.strip.now in
    let refused = with_room _ _ _ c.in-Some.ensures.cases.enough ∙ c.in_err-check.ensures in
    ap (λ (front : List ℕ). front ++ drop 1360 strip) c.in-Some.ensures.cases.same ∙ take-append-drop 1360 strip
    ∙ strip_stays g.R.Rate.layout (state_of c.args.self.now) c.args.records.now strip _ refused

pub returns-in_err-check-clause-state : goal.returns-in_err-check-clause-state
returns-in_err-check-clause-state g c =
    state_stays g.R.Rate.layout (state_of c.args.self.now) c.args.records.now _ _ (with_room _ _ _ c.in-Some.ensures.cases.enough ∙ c.in_err-check.ensures)

pub returns-in_err-check-clause-laws : goal.returns-in_err-check-clause-laws
returns-in_err-check-clause-laws g c = sending g.R.Rate.layout g.met.R.Rate.lawful

pub put_message-requires-clause-records : goal.put_message-requires-clause-records
put_message-requires-clause-records g c = let a = accepted _ _ (length c.args.strip.now) (with_room _ _ _ c.in-Some.ensures.cases.enough ∙ c.in_ok-check.ensures) in (a.count, a.kinds)

pub returns : goal.returns
returns g c =
    let r : Layout = g.R.Rate.layout in
    let s : SenderState = state_of c.args.self.now in
    let records : List ℕ = c.args.records.now in
    let strip : List ℕ = c.args.strip.now in
    let o = with_room _ _ _ c.in-Some.ensures.cases.enough ∙ c.in_ok-check.ensures in
    record {
      answer = ap send_answer (sym o);
      strip = ap (λ (front : List ℕ). front ++ drop 1360 strip) (c.fill_strip.ensures.strip ∙ ap (strip_of r.lanes) c.put_message.ensures.message) ∙ strip_sent r s records strip o;
      state = c.put_message.ensures.state ∙ state_sent r s records (length strip) o;
      kept = tt;
      laws = sending r g.met.R.Rate.lawful;
    }
