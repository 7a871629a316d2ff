use Rattle.std.proofs.Common.{◌≡◌, ℕ, Bool, true, false, rules, ap, ◌∙◌}
use Rattle.std.proofs.lemmas.Iterator.{first_from_Range}
use Rattle.bits.specs.Lowest.{lowest}
use Rattle.lanes.specs.Markers.{passes, found}
use Rattle.lanes.proofs.Lanes.{lowest_first, the_lane, sent_lane}
use Rattle.lanes.proofs.marker.found_lane.Goals as goal

pub returns : goal.returns
returns g c =
    let test : ℕ → Bool = passes g.R.Rate.layout c.args.window in
    let first = first_from_Range _ _ _ _ (λ k. test k ≡ true) (λ k. test k ≡ false) c.find.ensures.ran (λ x q k. search rules) (λ x q k. search rules) in
    let e : c.find.result ≡ found g.R.Rate.layout c.args.window = lowest_first test c.lane_count.result _ first ∙ ap (lowest test) c.lane_count.ensures in
    record {
      lane = e;
      only = λ l p. e ∙ the_lane g.met.R.Rate.lawful c.args.window l p;
      sent = λ l h p. e ∙ sent_lane g.met.R.Rate.lawful c.args.window l h p;
    }
