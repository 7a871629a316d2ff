-- A codeword stays, and at reach 0 no other word is near one.
use Rattle.std.proofs.Common.{List, ℕ, Ok, Err, refl, subst, lit≤}
use Rattle.std.proofs.lemmas.Result.{err_from_is_err_and}
use Rattle.code.specs.declared.refusal.Refusal.{Refusal}
use Rattle.code.specs.declared.refusal.Refusal.TheVariants.{Reach}
use Rattle.code.specs.Laws.{Refused, Repaired}
use Rattle.code.proofs.Engines.{malformed_refused, engine_so}
use Rattle.code.proofs.Answered.{untouched, none-near}
use Rattle.code.proofs.Words.{formed}
use Rattle.code.proofs.watch.WatchEngineEngine.correct.Goals as goal

pub returns-in_err-received : goal.returns-in_err-received
returns-in_err-received c =
    let w : List ℕ = c.args.word.now in
    let e : Refusal = c.in_err-received.field-0.0 in
    let p = err_from_is_err_and c.from_residual.result c.from_residual.ensures.1 in
    let t = engine_so 0 (lit≤ tt) w w (Err e) (refl, malformed_refused 0 w e c.in_err-received.ensures) in
    rw (p.1, p.2) (record { answer = t.answer; word = t.word; laws = t.laws })

pub returns-then-has_roots : goal.returns-then-has_roots
returns-then-has_roots c =
    let w : List ℕ = c.args.word.now in
    let t = engine_so 0 (lit≤ tt) w w (Ok 0) (subst (λ w. Repaired 0 w w 0) c.in_ok-received.ensures (untouched 0 _ c.if-has_roots.ensures)) in
    record { answer = t.answer; word = t.word; laws = t.laws }

pub returns-else-has_roots : goal.returns-else-has_roots
returns-else-has_roots c =
    let w : List ℕ = c.args.word.now in
    let r = c.in_ok-received.received in
    let t = engine_so 0 (lit≤ tt) w w (Err Reach) (refl, subst (λ w. Refused 0 w Reach) c.in_ok-received.ensures (formed r, none-near r.symbols.now (formed r) c.if-has_roots.ensures)) in
    record { answer = t.answer; word = t.word; laws = t.laws }
