-- One product more; at the end there are as many as the window has syndromes.
use Rattle.std.proofs.Common.{◌-◌, ◌<◌, Bor, length, get_or, take, drop, ap, ◌∙◌, arith}
use Rattle.std.proofs.lemmas.List.{get_or-take, get_or-drop, length-take-le, length_push, take_rest}
use Rattle.std.proofs.lemmas.Slice.Zip.{zip_turn}
use Rattle.decoder.proofs.Rows.{applied_next}
use Rattle.decoder.proofs.elimination.Row.apply.Goals as goal

pub loop-a-preserved : goal.loop-a-preserved
loop-a-preserved g c =
    let 𝟎 = g.F.Adds.group.zero in
    let v = c.args.self.now.coefficients in
    let s = c.args.window.now.s.now in
    let k = c.args.window.now.k in
    let n = c.args.window.now.n in
    let i = length c.loop-a.yielded in
    let pair : Bor g.row.F.Denot × Bor g.row.F.Denot = (c.in-Some.a, c.in-Some.y) in
    let turn = zip_turn (take n v) (take (length s - k) (drop k s)) c.loop-a.yielded c.into_iter-a-iterator.result c.loop-a.a-iterator c.next.new.self _ (cc) (cc) c.loop-a.yielded_by pair c.in-Some.is c.next.ensures.steps in
    let within : i < n = omega (arith, turn.0, length-take-le n v (omega arith)) in
    let a = turn.2 𝟎 ∙ get_or-take n v i 𝟎 within in
    let y = turn.3 𝟎 ∙ ap (λ z. get_or z i 𝟎) (take_rest s k) ∙ get_or-drop k s i 𝟎 in
    let grown = length_push c.loop-a.yielded pair in
    let next = applied_next _ _ g.met.F.Field.field v s k i in
    cc
