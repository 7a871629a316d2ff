-- One error more.
use Rattle.std.proofs.Common.{List, length, get_or, ap, arith}
use Rattle.std.proofs.lemmas.List.{get_or_read}
use Rattle.decoder.specs.Errors.{error_value}
use Rattle.decoder.proofs.Steps.{subtracted_next}
use Rattle.decoder.proofs.errors.subtract.Goals as goal

pub loop-j-preserved : goal.loop-j-preserved
loop-j-preserved g c =
    let G = g.F.Adds.group in
    let R = g.F.Field.ring in
    let none = G.zero in
    let s = c.args.s.now in
    let locs = c.args.located.now in
    let found = c.args.found.now in
    let m = length found in
    let j = c.loop-j.j in
    let out = c.loop-j.word in
    let i = get_or found j 0 in
    let small = c.requires.within j (omega arith) in
    let same = ap (λ (z : List g.row.F.Denot). error_value G R locs (λ k. get_or z k none) (length locs) j) c.copy_from_slice.ensures.after in
    let all = ap (λ k. error_value G R locs (λ k. get_or s k none) k j) c.requires.sizes.1.1 in
    let read = get_or_read out i c.index-word-i.result (omega arith) c.index-word-i.is none in
    subtracted_next G R c.args.word.now found locs s m j out c.add.result c.loop-j.invariant c.loop-j-test.true c.requires.ascend (omega arith) (cc)
