use Rattle.std.proofs.Common.{ℕ, ◌<◌, ◌≤◌, Some, ap, sym, ◌∙◌, subst, arith}
use Rattle.pairs.proofs.Placed.{in_word_inside, no_lane, no_row, one_to_one}
use Rattle.pairs.proofs.place.LanePlace.in_word.Goals.{then-self-lane_count-via-then-self-lane_count, then-self-lane_count-via-else-self-lane_count+then-self-row_count}
use Rattle.pairs.proofs.place.LanePlace.in_word.Goals as goal

pub returns-then-self-lane_count-clause-place : goal.returns-then-self-lane_count-clause-place
returns-then-self-lane_count-clause-place g c = elim c.then-self-lane_count.branch [
  | then-self-lane_count-via-then-self-lane_count w ↦ sym (no_lane g.R.Rate.layout.lanes c.args.self (omega (arith, c.lane_count.ensures, w.if-self-lane_count.true)))
  | then-self-lane_count-via-else-self-lane_count+then-self-row_count w ↦
      let P : ℕ → Type 0 = λ n. n ≤ c.args.self.row in
      sym (no_row g.R.Rate.layout.lanes c.args.self (omega (arith, c.lane_count.ensures, w.if-self-lane_count.false)) (subst P w.row_count.ensures w.if-self-row_count.true))
]

pub returns-then-self-lane_count-clause-laws : goal.returns-then-self-lane_count-clause-laws
returns-then-self-lane_count-clause-laws g c = one_to_one g.R.Rate.layout.lanes g.met.R.Rate.lawful.width

pub returns-clause-place : goal.returns-clause-place
returns-clause-place g c =
    let P : ℕ → Type 0 = λ n. c.args.self.row < n in
    ap Some c.word_place.ensures
    ∙ sym (in_word_inside g.R.Rate.layout.lanes c.args.self (omega (arith, c.lane_count.ensures, c.if-self-lane_count.false)) (subst P c.row_count.ensures c.if-self-row_count.false))

pub returns-clause-laws : goal.returns-clause-laws
returns-clause-laws g c = one_to_one g.R.Rate.layout.lanes g.met.R.Rate.lawful.width
