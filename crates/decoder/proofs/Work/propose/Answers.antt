-- The locator has few roots; with the errors there subtracted, the word is the proposal.
use Rattle.std.proofs.Common.{◌+◌, ◌*◌, List, length, take, sym, subst, arith}
use Rattle.std.proofs.lemmas.List.{length-take-le}
use Rattle.decoder.specs.Decoding.{Proposal}
use Rattle.decoder.specs.Errors.{Subtracted}
use Rattle.decoder.specs.Words.{Syndromes}
use Rattle.decoder.proofs.Decoding.{few_found, proposal_found}
use Rattle.decoder.proofs.Work.propose.Goals as goal

pub returns-then-m-received : goal.returns-then-m-received
returns-then-m-received g c =
    let r = c.args.received.now in
    let rows = length-take-le (r.reach + 1) c.args.self.now.rows (omega arith) in
    let few = few_found g.F.Adds.group g.F.Field.ring g.met.F.Field.field r.points.now r.syndromes.now c.locate-locator.result c.find-found.result.now _ r.reach _ _ r.apart rows (omega arith) c.locate-locator.ensures c.find-found.ensures in
    λ w code near. omega arith

pub returns : goal.returns
returns g c =
    let G = g.F.Adds.group in
    let R = g.F.Field.ring in
    let r = c.args.received.now in
    let word = r.symbols.now in
    let xs = r.points.now in
    let s = r.syndromes.now in
    let reach = r.reach in
    let places = c.find-found.result.now in
    let m = length places in
    let located = c.gather.new.located in
    let out = c.subtract.new.word in
    let rows = length-take-le (reach + 1) c.args.self.now.rows (omega arith) in
    let syndromes = subst (λ k. Syndromes G R word xs k (2 * reach) s) (sym r.paired) r.values in
    let less = subst (λ (w : List g.row.F.Denot). Subtracted G R w places located (take m s) m m out) c.copy_from_slice.ensures.after c.subtract.ensures in
    subst (λ k. Proposal G R xs k reach word out) r.paired
    (proposal_found G R g.met.F.Field.field xs s c.locate-locator.result places _ reach _ m r.apart rows (omega arith) c.locate-locator.ensures c.find-found.ensures word located out (omega arith) syndromes c.gather.ensures less)
