use Rattle.std.proofs.Common.{ℕ, ◌+◌, ◌*◌, List, ◌∙◌, rules}
use Rattle.pairs.specs.Packing.{word_of}
use Rattle.pairs.specs.Strips.{lane_symbol}
use Rattle.pairs.proofs.Messaged.{made_by}
use Rattle.pairs.proofs.Packs.{quad_is}
use Rattle.pairs.proofs.strip.Lane.quad.Goals as goal

pub returns : goal.returns
returns g c =
    let lanes : ℕ = g.R.Rate.layout.lanes in
    let a : List ℕ = word_of c.args.self.now.words.now.words 0 in
    let b : List ℕ = word_of c.args.self.now.words.now.words 1 in
    let l : ℕ = c.args.self.now.number in
    let q : ℕ = c.args.q in
    c.pack.ensures
    ∙ quad_is lanes a b l q c.from_fn.result (made_by _ _ (λ i. lane_symbol lanes a b l (4 * q + i)) (λ i y p h. search rules) c.from_fn.result 4 c.from_fn.ensures.items)
