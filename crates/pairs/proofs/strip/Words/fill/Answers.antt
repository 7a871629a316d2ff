use Rattle.std.proofs.Common.{◌≡◌, ℕ, ◌+◌, ◌-◌, ◌*◌, ◌/◌, List, ◌++◌, drop, sym, ap, ◌∙◌, ap₂, zero-mul, append-nil, arith}
use Rattle.std.proofs.lemmas.List.{drop_all}
use borrow.Rule.Slice.PartMut.{put_mid}
use Rattle.pairs.specs.Strips.{strip_octets}
use Rattle.pairs.specs.Packing.{word_of}
use Rattle.pairs.proofs.Packs.{parts_whole, strip_step}
use Rattle.pairs.proofs.strip.Words.fill.Goals as goal

pub loop-number-init : goal.loop-number-init
unfolding strip_octets
loop-number-init g c = ap (λ (n : ℕ). drop n c.args.strip.now) (sym (zero-mul (1360 / g.R.Rate.layout.lanes)))

pub loop-number-preserved : goal.loop-number-preserved
loop-number-preserved g c =
    let lane : ℕ = c.loop-number.number in
    let strip : List ℕ = c.loop-number.strip in
    let part : List ℕ = c.fill.new.part in
    ap (λ (n : ℕ). put_mid (lane * (1360 / n)) (lane * (1360 / n) + 1360 / n - lane * (1360 / n)) strip part) c.lane_count-size.ensures
    ∙ strip_step g.R.Rate.layout.lanes (word_of c.args.self.now.words 0) (word_of c.args.self.now.words 1) lane c.args.strip.now strip part c.fill.ensures c.loop-number.invariant

pub returns : goal.returns
returns g c =
    let lanes : ℕ = g.R.Rate.layout.lanes in
    let entry : List ℕ = c.args.strip.now in
    let n : c.loop-number.number ≡ lanes = omega (arith, c.lane_count-number-end.ensures) in
    let words : ℕ → List ℕ = word_of c.args.self.now.words in
    c.loop-number.invariant
    ∙ ap₂ (λ (l k : ℕ). strip_octets lanes (words 0) (words 1) l ++ drop k entry) n (ap (λ (l : ℕ). l * (1360 / lanes)) n ∙ parts_whole lanes g.met.R.Rate.lawful.width)
    ∙ ap (λ (rest : List ℕ). strip_octets lanes (words 0) (words 1) lanes ++ rest) (drop_all 1360 entry (omega (arith, c.told-strip))) ∙ append-nil (strip_octets lanes (words 0) (words 1) lanes)
