-- The points differ, and what the decoder says of elements holds of the symbols.
use Rattle.std.proofs.Common.{arith, lit<}
use Rattle.std.proofs.lemmas.Result.{err_from_is_err_and}
use Rattle.code.proofs.Decoded.{points_distinct, syndromes_are, candidate, no_candidate}
use Rattle.code.proofs.Words.{formed}
use Rattle.code.proofs.full.FullEngine.propose.Goals as goal

pub invariant_of-received : goal.invariant_of-received
invariant_of-received c =
    let w = c.args.word.symbols.now in
    let es = c.load-elements.result in
    let xs = c.args.self.now.places.points in
    record {
      paired = omega arith;
      fits = omega arith;
      apart = points_distinct xs (omega arith) c.args.self.now.places.filled;
      small = lit< tt;
      given = omega arith;
      values = syndromes_are w es xs (formed c.args.word) (omega arith) c.load-elements.ensures c.args.self.now.places.filled c.args.syndromes.now c.requires;
    }

pub returns-in_err-proposal : goal.returns-in_err-proposal
returns-in_err-proposal c =
    let w = c.args.word.symbols.now in
    let es = c.load-elements.result in
    let xs = c.args.self.now.places.points in
    let p = err_from_is_err_and c.from_residual.result c.from_residual.ensures.1 in
    rw (p.1, p.2) (formed c.args.word, no_candidate w es xs (formed c.args.word) (omega arith) c.load-elements.ensures c.args.self.now.places.filled c.in_err-proposal.ensures)

pub store-requires : goal.store-requires
store-requires c = let s = c.in_ok-proposal.ensures.size in omega arith

pub returns : goal.returns
returns c =
    let w = c.args.word.symbols.now in
    let es = c.load-elements.result in
    let xs = c.args.self.now.places.points in
    candidate w es xs (formed c.args.word) (omega arith) c.load-elements.ensures c.args.self.now.places.filled c.in_ok-proposal.proposal.now c.store.result (omega arith) c.store.ensures c.in_ok-proposal.ensures
