use Rattle.std.proofs.Common.{◌≡◌, ℕ, ◌+◌, ◌*◌, ◌/◌, List, ◌++◌, length, take, drop, sym, refl, ap, ◌∙◌, arith}
use Rattle.bits.specs.Bits.{octets}
use Rattle.bits.proofs.Octets.{eight_octets, put_at}
use Rattle.pairs.specs.Packing.{word_of}
use Rattle.pairs.proofs.Packs.{quad_inside, lane_step, lane_done}
use Rattle.pairs.proofs.strip.Lane.fill.Goals as goal

pub loop-q-init : goal.loop-q-init
unfolding octets
loop-q-init g c = refl

pub quad-requires : goal.quad-requires
quad-requires g c = quad_inside g.R.Rate.layout.lanes c.loop-q.q (length c.args.part.now) g.met.R.Rate.lawful.width c.requires c.loop-q-test.true

pub loop-q-preserved : goal.loop-q-preserved
loop-q-preserved g c =
    let q : ℕ = c.loop-q.q in
    let part : List ℕ = c.loop-q.part in
    let bytes : List ℕ = c.to_le_bytes-octets.result in
    lane_step g.R.Rate.layout.lanes (word_of c.args.self.now.words.now.words 0) (word_of c.args.self.now.words.now.words 1) c.args.self.now.number q c.quad.result part bytes _ (omega arith) c.loop-q.invariant c.quad.ensures
    (c.to_le_bytes-octets.ensures ∙ sym (eight_octets c.quad.result))
    (put_at part c.copy_from_slice.new.self (5 * q) 5 ∙ ap (λ (ys : List ℕ). take (5 * q) part ++ (ys ++ drop (5 * q + 5) part)) c.copy_from_slice.ensures.after)

pub returns : goal.returns
returns g c =
    let n : length c.loop-q.part ≡ 1360 / g.R.Rate.layout.lanes = omega (arith, c.requires) in
    lane_done g.R.Rate.layout.lanes (word_of c.args.self.now.words.now.words 0) (word_of c.args.self.now.words.now.words 1) c.args.self.now.number c.loop-q.q c.loop-q.part g.met.R.Rate.lawful.width n (omega arith) c.loop-q.invariant
