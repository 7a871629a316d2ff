-- What is stored is the codeword that was proposed.
use Rattle.std.proofs.Common.{◌≡◌, ◌≤◌, ℕ, List, length, Ok, Err, sym, refl, ap, subst, arith, lit≤}
use Rattle.std.proofs.lemmas.Result.{err_from_is_err_and}
use Rattle.code.specs.declared.refusal.Refusal.{Refusal}
use Rattle.code.specs.declared.refusal.Refusal.TheVariants.{Reach}
use Rattle.code.specs.Code.{Codeword, distance}
use Rattle.code.specs.Laws.{Refused, Repaired}
use Rattle.code.proofs.Engines.{malformed_refused, engine_so}
use Rattle.code.proofs.Answered.{untouched}
use Rattle.code.proofs.WordRemainders.{codeword, word_values}
use Rattle.code.proofs.Words.{formed}
use Rattle.code.proofs.full.FullEngineEngine.correct.Goals as goal

pub returns-in_err-received : goal.returns-in_err-received
returns-in_err-received c =
    let w : List ℕ = c.args.word.now in
    let e : Refusal = c.in_err-received.field-0.0 in
    let p = err_from_is_err_and c.from_residual.result c.from_residual.ensures.1 in
    let t = engine_so 15 (lit≤ tt) w w (Err e) (refl, malformed_refused 15 w e c.in_err-received.ensures) in
    rw (p.1, p.2) (record { answer = t.answer; word = t.word; laws = t.laws })

pub returns-then-is_zero : goal.returns-then-is_zero
returns-then-is_zero c =
    let w : List ℕ = c.args.word.now in
    let r = c.in_ok-received.received in
    let code : Codeword r.symbols.now = codeword r.symbols.now c.remainder-remainder.result.symbols (formed r) c.remainder-remainder.ensures c.if-is_zero.ensures in
    let t = engine_so 15 (lit≤ tt) w w (Ok 0) (subst (λ w. Repaired 15 w w 0) c.in_ok-received.ensures (untouched 15 r.symbols.now code)) in
    record { answer = t.answer; word = t.word; laws = t.laws }

pub propose-requires : goal.propose-requires
propose-requires c =
    word_values c.in_ok-received.received.symbols.now c.remainder-remainder.result.symbols c.find_syndromes-syndromes.result c.remainder-remainder.ensures c.find_syndromes-syndromes.ensures

pub returns-in_err-corrected : goal.returns-in_err-corrected
returns-in_err-corrected c =
    let w : List ℕ = c.args.word.now in
    let e : Refusal = c.in_err-corrected.field-0.0 in
    let p = err_from_is_err_and c.from_residual-in_err-corrected.result c.from_residual-in_err-corrected.ensures.1 in
    let t = engine_so 15 (lit≤ tt) w w (Err e) (refl, subst (λ w. Refused 15 w e) c.in_ok-received.ensures c.in_err-corrected.ensures) in
    rw (p.1, p.2) (record { answer = t.answer; word = t.word; laws = t.laws })

pub returns-then-not-has_roots : goal.returns-then-not-has_roots
returns-then-not-has_roots c =
    let w : List ℕ = c.args.word.now in
    let r = c.in_ok-received.received in
    let v = c.in_ok-corrected.corrected in
    let none : Codeword v → ⊥ = c.if-not-has_roots.ensures in
    let t = engine_so 15 (lit≤ tt) w w (Err Reach)
    (refl, subst (λ w. Refused 15 w Reach) c.in_ok-received.ensures (formed r, λ u code near. none (subst Codeword (c.in_ok-corrected.ensures.only u code near) code))) in
    record { answer = t.answer; word = t.word; laws = t.laws }

pub copy_from_slice-requires : goal.copy_from_slice-requires
copy_from_slice-requires c =
    let long = c.in_ok-received.received.whole in
    let e : length c.in_ok-received.received.symbols.now ≡ length c.args.word.now = ap length c.in_ok-received.ensures in
    let size = c.in_ok-corrected.ensures.formed.size in
    omega arith

pub returns : goal.returns
returns c =
    let w : List ℕ = c.args.word.now in
    let r = c.in_ok-received.received in
    let v = c.in_ok-corrected.corrected in
    let n = c.count_changes-count.result in
    let code : Codeword v = c.if-not-has_roots.ensures in
    let count : n ≡ distance r.symbols.now v = c.count_changes-count.ensures in
    let near : distance r.symbols.now v ≤ 15 = c.in_ok-corrected.ensures.near in
    let repaired : Repaired 15 r.symbols.now v n = record { formed = formed r; codeword = code; changed = sym count; within = omega arith } in
    let t = engine_so 15 (lit≤ tt) w c.copy_from_slice.new.self (Ok n)
    (subst (λ w. Repaired 15 w c.copy_from_slice.new.self n) c.in_ok-received.ensures
    (subst (λ u. Repaired 15 r.symbols.now u n) (sym c.copy_from_slice.ensures.after) repaired)) in
    record { answer = t.answer; word = t.word; laws = t.laws }
