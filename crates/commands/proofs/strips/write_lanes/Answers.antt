use Rattle.std.proofs.Common.{rules, ◌≡◌, ◌<◌, length, subst, slice_get, Some, get_or}
use Rattle.std.specs.Io.KnownBytes.{Appends}
use Rattle.std.proofs.lemmas.Option.{slice_get_within, slice_get-get_or}
use Rattle.commands.specs.Streams.{AppendsFront}
use Rattle.commands.proofs.LaneParts.{part_is, none_written, all_written, one_more, one_cut}
use Rattle.commands.proofs.strips.write_lanes.Goals as goal

pub loop-lane-init : goal.loop-lane-init
loop-lane-init g c = (search rules, none_written g.W.Write.contents c.args.size c.args.strip.now c.args.lanes.now)

pub returns-in-Err-clause-each : goal.returns-in-Err-clause-each
returns-in-Err-clause-each g c =
    let there : c.loop-lane.lane < length c.loop-lane.lanes = search rules in
    let x = get_or c.loop-lane.lanes c.loop-lane.lane c.index-lanes-lane.result in
    let at : slice_get c.loop-lane.lanes c.loop-lane.lane ≡ Some x = slice_get-get_or c.loop-lane.lanes c.loop-lane.lane c.index-lanes-lane.result there in
    one_cut g.W.Write.contents c.args.size c.args.strip.now c.args.lanes.now c.loop-lane.lanes c.loop-lane.lane x c.put.new.out there at c.loop-lane.invariant.1
    (subst (AppendsFront _ _) (part_is c.args.size c.loop-lane.lane c.args.strip.now) c.in-Err.ensures)

pub loop-lane-preserved : goal.loop-lane-preserved
loop-lane-preserved g c =
    let there : c.loop-lane.lane < length c.loop-lane.lanes = search rules in
    let x = get_or c.loop-lane.lanes c.loop-lane.lane c.index-lanes-lane.result in
    let at : slice_get c.loop-lane.lanes c.loop-lane.lane ≡ Some x = slice_get-get_or c.loop-lane.lanes c.loop-lane.lane c.index-lanes-lane.result there in (
      search rules,
      one_more g.W.Write.contents c.args.size c.args.strip.now c.args.lanes.now c.loop-lane.lanes c.loop-lane.lane x c.put.new.out there at c.loop-lane.invariant.1
          (subst (Appends _ _) (part_is c.args.size c.loop-lane.lane c.args.strip.now) c.in_default.ensures),
    )

pub returns-clause-each : goal.returns-clause-each
returns-clause-each g c = all_written g.W.Write.contents c.args.size c.args.strip.now c.args.lanes.now c.loop-lane.lanes c.loop-lane.lane (search rules) (λ k v e. slice_get_within _ k v e) c.loop-lane.invariant.1
