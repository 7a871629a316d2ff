use Rattle.std.proofs.Common.{rules, ◌≡◌, ◌*◌, ◌<◌, length, take, ℕ, List, [], ap, ◌∙◌, subst, arith, refl, ◌/◌}
use Rattle.std.specs.Io.KnownBytes.{Appends}
use Rattle.lanes.specs.Rates.{Layout}
use Rattle.sender.specs.States.{SenderState, groups_of, sent_state}
use Rattle.sender.specs.View.{state_of}
use Rattle.commands.specs.Streams.{AppendsFront}
use Rattle.commands.specs.Strips.{bytes_due, part_size, lane_part}
use Rattle.commands.specs.declared.strips.StripError.{StripError}
use Rattle.commands.proofs.Sends.{stands_first, cut_between, all_sent, refused_sent, pair_sent, pair_cut, took, Took, strip_written, most_groups, some_groups, send_refused_here, send_accepted, some_taken, place_within, stands_at, refused_tells, refused_prints}
use Rattle.commands.proofs.strips.send_strips.Goals as goal

parted : (P : List ℕ → Type 0) (m n : ℕ) (x y : List ℕ) (l : ℕ) → m ≡ n → x ≡ y → P (lane_part m x l) → P (lane_part n y l)
parted P m n x y l e f h = subst (λ k. P (lane_part k y l)) e (subst (λ z. P (lane_part m z l)) f h)

pub loop-pairs-init : goal.loop-pairs-init
loop-pairs-init g c = (stands_first _ _ _ _ _, search rules, search rules)

pub returns-in_err-n-clause-lanes : goal.returns-in_err-n-clause-lanes
returns-in_err-n-clause-lanes g c = cut_between g.R.Rate.layout g.W.Write.contents _ (state_of c.loop-pairs.sender) _ _ _ _ c.loop-pairs.pairs c.loop-pairs.blocks _ c.from_residual.ensures.0 c.loop-pairs.invariant.0

pub returns-clause-lanes : goal.returns-clause-lanes
returns-clause-lanes g c = cut_between g.R.Rate.layout g.W.Write.contents _ (state_of c.loop-pairs.sender) _ _ _ _ c.loop-pairs.pairs c.loop-pairs.blocks _ refl c.loop-pairs.invariant.0

pub returns-then-n-eq0-clause-lanes : goal.returns-then-n-eq0-clause-lanes
returns-then-n-eq0-clause-lanes g c =
    let r : Layout = g.R.Rate.layout in
    let s : SenderState = state_of c.loop-pairs.sender in
    let due : 9 * c.block_count-count.result ≡ bytes_due r s = omega (arith, c.block_count-count.ensures) in
    let t = took r s _ _ c.in_ok-n.n _ c.read_front.new.buf due (search rules) c.in_ok-n.ensures.bound c.in_ok-n.ensures.bytes in
    let none : take c.in_ok-n.n c.read_front.new.buf ≡ [] = ap (λ n. take n c.read_front.new.buf) c.if-n-eq0.true in
    let some : 0 < bytes_due r s = omega (arith, some_groups r.lanes s (search rules)) in
    (all_sent r _ StripError _ s _ _ _ _ _ c.loop-pairs.pairs c.loop-pairs.blocks c.loop-pairs.invariant.0 some (subst (Took r s _ _) none t)).0

pub returns-then-n-eq0-clause-answer : goal.returns-then-n-eq0-clause-answer
returns-then-n-eq0-clause-answer g c =
    let r : Layout = g.R.Rate.layout in
    let s : SenderState = state_of c.loop-pairs.sender in
    let due : 9 * c.block_count-count.result ≡ bytes_due r s = omega (arith, c.block_count-count.ensures) in
    let t = took r s _ _ c.in_ok-n.n _ c.read_front.new.buf due (search rules) c.in_ok-n.ensures.bound c.in_ok-n.ensures.bytes in
    let none : take c.in_ok-n.n c.read_front.new.buf ≡ [] = ap (λ n. take n c.read_front.new.buf) c.if-n-eq0.true in
    let some : 0 < bytes_due r s = omega (arith, some_groups r.lanes s (search rules)) in
    (all_sent r g.W.Write.contents StripError _ s _ _ _ c.args.lanes.now _ c.loop-pairs.pairs c.loop-pairs.blocks c.loop-pairs.invariant.0 some (subst (Took r s _ _) none t)).1

pub placed-requires : goal.placed-requires
placed-requires g c =
    let r : Layout = g.R.Rate.layout in
    let s : SenderState = state_of c.loop-pairs.sender in
    let piece = take c.in_ok-n.n c.read_front.new.buf in
    let size : length c.loop-pairs.strip ≡ 1360 = search rules in
    let h = send_refused_here (groups_of r.lanes s) piece c.loop-pairs.strip c.in-Err.refusal size c.in-Err.ensures.answer in
    let far = place_within (groups_of r.lanes s) piece c.in-Err.refusal h in
    omega (arith, far, most_groups r.lanes s, c.loop-pairs.invariant.1, c.loop-pairs-test.true)

pub returns-in-Err-clause-lanes : goal.returns-in-Err-clause-lanes
returns-in-Err-clause-lanes g c =
    let r : Layout = g.R.Rate.layout in
    let s : SenderState = state_of c.loop-pairs.sender in
    let due : 9 * c.block_count-count.result ≡ bytes_due r s = omega (arith, c.block_count-count.ensures) in
    let piece = take c.in_ok-n.n c.read_front.new.buf in
    let t = took r s _ _ c.in_ok-n.n _ c.read_front.new.buf due (search rules) c.in_ok-n.ensures.bound c.in_ok-n.ensures.bytes in
    let some : 0 < length piece = some_taken c.in_ok-n.n c.read_front.new.buf (search rules) c.if-n-eq0.false in
    let size : length c.loop-pairs.strip ≡ 1360 = search rules in
    let h = send_refused_here (groups_of r.lanes s) piece c.loop-pairs.strip c.in-Err.refusal size c.in-Err.ensures.answer in
    refused_prints r _ StripError _ _ _ _ c.loop-pairs.pairs c.loop-pairs.blocks c.in-Err.refusal _ c.placed.ensures
    (refused_sent r _ StripError _ s _ _ _ _ _ c.loop-pairs.pairs c.loop-pairs.blocks piece c.in-Err.refusal c.loop-pairs.invariant.0 t some h).0

pub returns-in-Err-clause-answer : goal.returns-in-Err-clause-answer
returns-in-Err-clause-answer g c =
    let r : Layout = g.R.Rate.layout in
    let s : SenderState = state_of c.loop-pairs.sender in
    let due : 9 * c.block_count-count.result ≡ bytes_due r s = omega (arith, c.block_count-count.ensures) in
    let piece = take c.in_ok-n.n c.read_front.new.buf in
    let t = took r s _ _ c.in_ok-n.n _ c.read_front.new.buf due (search rules) c.in_ok-n.ensures.bound c.in_ok-n.ensures.bytes in
    let some : 0 < length piece = some_taken c.in_ok-n.n c.read_front.new.buf (search rules) c.if-n-eq0.false in
    let size : length c.loop-pairs.strip ≡ 1360 = search rules in
    let h = send_refused_here (groups_of r.lanes s) piece c.loop-pairs.strip c.in-Err.refusal size c.in-Err.ensures.answer in
    refused_tells r _ s _ _ c.loop-pairs.pairs c.loop-pairs.blocks c.in-Err.refusal _ c.placed.ensures (ap state_of c.in-Err.ensures.kept)
    (refused_sent r g.W.Write.contents StripError _ s _ _ _ c.args.lanes.now _ c.loop-pairs.pairs c.loop-pairs.blocks piece c.in-Err.refusal c.loop-pairs.invariant.0 t some h).1

pub returns-in_err-write_lanes-clause-lanes : goal.returns-in_err-write_lanes-clause-lanes
returns-in_err-write_lanes-clause-lanes g c =
    let r : Layout = g.R.Rate.layout in
    let s : SenderState = state_of c.loop-pairs.sender in
    let due : 9 * c.block_count-count.result ≡ bytes_due r s = omega (arith, c.block_count-count.ensures) in
    let piece = take c.in_ok-n.n c.read_front.new.buf in
    let t = took r s _ _ c.in_ok-n.n _ c.read_front.new.buf due (search rules) c.in_ok-n.ensures.bound c.in_ok-n.ensures.bytes in
    let some : 0 < length piece = some_taken c.in_ok-n.n c.read_front.new.buf (search rules) c.if-n-eq0.false in
    let size : length c.loop-pairs.strip ≡ 1360 = search rules in
    let h = send_accepted (groups_of r.lanes s) piece c.loop-pairs.strip c.in_default.field-0 size c.in_default.ensures.answer in
    let part : 1360 / c.lane_count-part.result ≡ part_size r = ap (λ n. 1360 / n) c.lane_count-part.ensures in
    let strip = c.in_default.ensures.strip ∙ strip_written r s piece c.loop-pairs.strip size h in
    pair_cut r g.W.Write.contents _ s _ _ _ _ _ _ _ _ piece _ c.write_lanes.ensures.count c.from_residual-in_err-write_lanes.ensures.0 c.loop-pairs.invariant.0 t some h
    (λ l v w e f. parted (AppendsFront (g.W.Write.contents v) (g.W.Write.contents w)) _ _ _ _ l part strip (c.in_err-write_lanes.ensures.each l v w e f))

pub loop-pairs-preserved : goal.loop-pairs-preserved
loop-pairs-preserved g c =
    let r : Layout = g.R.Rate.layout in
    let s : SenderState = state_of c.loop-pairs.sender in
    let due : 9 * c.block_count-count.result ≡ bytes_due r s = omega (arith, c.block_count-count.ensures) in
    let piece = take c.in_ok-n.n c.read_front.new.buf in
    let t = took r s _ _ c.in_ok-n.n _ c.read_front.new.buf due (search rules) c.in_ok-n.ensures.bound c.in_ok-n.ensures.bytes in
    let some : 0 < length piece = some_taken c.in_ok-n.n c.read_front.new.buf (search rules) c.if-n-eq0.false in
    let size : length c.loop-pairs.strip ≡ 1360 = search rules in
    let h = send_accepted (groups_of r.lanes s) piece c.loop-pairs.strip c.in_default.field-0 size c.in_default.ensures.answer in
    let part : 1360 / c.lane_count-part.result ≡ part_size r = ap (λ n. 1360 / n) c.lane_count-part.ensures in
    let strip = c.in_default.ensures.strip ∙ strip_written r s piece c.loop-pairs.strip size h in
    let state = c.in_default.ensures.state ∙ ap (sent_state r s piece) size in (
      stands_at r g.W.Write.contents _ _ _ _ _ _ _ _ _ _ _ state c.block_count-count.ensures
          (pair_sent r g.W.Write.contents _ s _ _ _ _ _ _ _ _ piece c.write_lanes.ensures.count c.loop-pairs.invariant.0 t some h
          (λ l v w e f. parted (Appends (g.W.Write.contents v) (g.W.Write.contents w)) _ _ _ _ l part strip (c.in_ok-write_lanes.ensures.each l v w e f))),
      omega (arith, c.block_count-count.ensures, most_groups r.lanes s, c.loop-pairs.invariant.1),
      search rules,
    )
