use Rattle.std.proofs.Common.{◌≡◌, ℕ, false, Option, Some, None, rules, sym, refl, ◌∙◌}
use Rattle.std.specs.Prelude.{MatchOption}
use Rattle.bits.specs.Lowest.{lowest}
use Rattle.lanes.specs.Rates.{Layout}
use Rattle.lanes.specs.Markers.{found}
use Rattle.lanes.specs.Locks.{tested}
use Rattle.bits.proofs.Lowest.{lowest_none}
use Rattle.lanes.proofs.lock.lane_in.Goals as goal

-- no window passes for no lane
lane_of : (r : Layout) (w o : Option ℕ) → MatchOption w (o ≡ None) (λ x. o ≡ found r x) → o ≡ lowest (tested r w) r.lanes
lane_of r None o h = h ∙ sym (lowest_none (λ l. false) r.lanes (λ i l. refl))
lane_of r (Some x) o h = h

pub returns : goal.returns
returns g c = lane_of g.R.Rate.layout c.args.window c.and_then.result (search rules)
