-- With all points passed, what remains is the term at the one asked for.
use Rattle.std.proofs.Common.{◌≡◌, length, get_or, ap, ◌∙◌, arith}
use Rattle.std.proofs.lemmas.List.{get_or_read}
use Rattle.decoder.specs.Errors.{without_terms, gaps}
use Rattle.decoder.proofs.errors.error_at.Goals as goal

pub returns : goal.returns
returns g c =
    let G = g.F.Adds.group in
    let R = g.F.Field.ring in
    let xs = c.args.points.now in
    let t₀ = c.args.t.now in
    let j = c.args.j in
    let inv = c.loop-l.invariant in
    let all : c.loop-l.l ≡ length xs = omega arith in
    let read = get_or_read c.loop-l.t 0 c.index-t-0.result (omega arith) c.index-t-0.is G.zero in
    let front = inv.3 0 (omega arith) ∙ ap (λ n. without_terms G R xs (λ k. get_or t₀ k G.zero) j n 0) all in
    let gap = inv.2 ∙ ap (gaps G R xs j) all in
    cc
