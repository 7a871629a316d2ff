use Rattle.std.proofs.Common.{◌≡◌, ℕ, Bool, true, false, None, sym, ap, ◌∙◌, arith, rules}
use Rattle.std.specs.List.{list_all}
use Rattle.lanes.specs.Rates.{marker_period}
use Rattle.receiver.specs.Positions.{is_locked, lane_shared}
use Rattle.receiver.specs.Skews.{too_wide}
use Rattle.receiver.proofs.Judging.{twice_told, skew_told, ready_told}
use Rattle.receiver.proofs.positions.judge_lock.Goals as goal

pub returns-in-Some-lane_shared : goal.returns-in-Some-lane_shared
returns-in-Some-lane_shared g c =
    let all : list_all is_locked c.args.positions.now ≡ true = sym c.all_locked.ensures ∙ c.if-not-all_locked.false in
    rw c.in-Some.is (twice_told (marker_period g.R.Rate.layout) c.args.positions.now c.args.ticks c.in-Some.just all _ (sym c.lane_shared.ensures ∙ c.in-Some-lane_shared.is))

pub returns-then-too_wide : goal.returns-then-too_wide
returns-then-too_wide g c =
    let all : list_all is_locked c.args.positions.now ≡ true = sym c.all_locked.ensures ∙ c.if-not-all_locked.false in
    let none : lane_shared c.args.positions.now ≡ None = search rules in
    let wide : too_wide (marker_period g.R.Rate.layout) c.args.positions.now ≡ true = ap (λ (p : ℕ). too_wide p c.args.positions.now) (sym c.period.ensures.ticks) ∙ sym c.too_wide.ensures ∙ c.if-too_wide.true in
    rw c.in-Some.is (skew_told (marker_period g.R.Rate.layout) c.args.positions.now c.args.ticks c.in-Some.just all none wide)

pub returns : goal.returns
returns g c =
    let all : list_all is_locked c.args.positions.now ≡ true = sym c.all_locked.ensures ∙ c.if-not-all_locked.false in
    let none : lane_shared c.args.positions.now ≡ None = search rules in
    let wide : too_wide (marker_period g.R.Rate.layout) c.args.positions.now ≡ false = ap (λ (p : ℕ). too_wide p c.args.positions.now) (sym c.period.ensures.ticks) ∙ sym c.too_wide.ensures ∙ c.if-too_wide.false in
    rw c.in-Some.is (ready_told (marker_period g.R.Rate.layout) c.args.positions.now c.args.ticks c.in-Some.just all none wide)
