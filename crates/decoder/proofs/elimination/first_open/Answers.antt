-- The place is the first that passes.
use Rattle.std.proofs.Common.{◌≡◌, ◌≢◌, rules, tests}
use Rattle.std.proofs.lemmas.Iterator.{IsFirst-from_position, YieldsList-from_slice}
use Rattle.decoder.specs.declared.elimination.Row.{Row}
use Rattle.decoder.specs.Words.{applied}
use Rattle.decoder.proofs.Stages.{first_row}
use Rattle.decoder.proofs.elimination.first_open.Goals as goal

pub returns : goal.returns
returns g c =
    let G = g.F.Adds.group in
    let R = g.F.Field.ring in
    let window = c.args.window.now in
    let rows = c.args.rows.now in
    let first =
    IsFirst-from_position _ _ _ (λ (x : Row g.row.F.Denot). applied G R x.coefficients window.s.now window.k window.n ≢ G.zero) (λ x. applied G R x.coefficients window.s.now window.k window.n ≡ G.zero) c.position.ensures.ran (YieldsList-from_slice rows cc)
    (λ x q k. search (rules, tests)) (λ x q k. search (rules, tests)) in
    first_row G R rows window.s.now window.k window.n c.position.result first
