-- One coefficient more.
use Rattle.std.proofs.Common.{◌≡◌, ◌<◌, length, reverse, sym, ◌∙◌, subst, arith}
use Rattle.std.proofs.lemmas.List.{get_or_read, get_or-reverse, length-reverse, length_push}
use Rattle.std.proofs.lemmas.Iterator.Adapters.{YieldsList-from_rev_slice}
use Rattle.std.proofs.lemmas.Iterator.Consumers.{YieldsList-turn}
use Rattle.decoder.specs.Words.{Stepped, Values, falling}
use Rattle.decoder.proofs.Evaluation.{values_none, values_next}
use Rattle.decoder.proofs.roots.put_values.Goals as goal

pub loop-c-init : goal.loop-c-init
loop-c-init g c =
    let v = c.args.v.now in
    let xs = c.args.points.now in
    values_none g.F.Adds.group g.F.Field.ring g.met.F.Field.field (falling g.F.Adds.group v (length v)) xs c.clear.new.s (length xs) _ (omega arith) c.clear.ensures

pub loop-c-preserved : goal.loop-c-preserved
loop-c-preserved g c =
    let G = g.F.Adds.group in
    let R = g.F.Field.ring in
    let v = c.args.v.now in
    let xs = c.args.points.now in
    let n = length c.loop-c.yielded in
    let a = c.in-Some.c.now in
    let turn = YieldsList-turn (YieldsList-from_rev_slice v cc) c.loop-c.yielded c.loop-c.c-iterator c.loop-c.yielded_by _ c.next.new.self c.in-Some.c c.in-Some.is c.next.ensures.steps in
    let within : n < length v = omega (arith, turn.0, length-reverse v) in
    let read = get_or_read (reverse v) n a turn.0 turn.1 G.zero ∙ get_or-reverse v n G.zero within in
    let stepped = subst (λ k. Stepped G R c.loop-c.values xs a k c.loop-i.values) (let all : c.loop-i.i ≡ length xs = omega arith in all) c.loop-i.invariant.0 in
    let next = values_next G R g.met.F.Field.field (falling G v (length v)) xs c.loop-c.values c.loop-i.values a (length xs) n c.loop-c.invariant read stepped in
    subst (λ k. Values G R (falling G v (length v)) k xs (length xs) c.loop-i.values) (sym (length_push c.loop-c.yielded c.in-Some.c)) next
