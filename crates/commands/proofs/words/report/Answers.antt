use Rattle.std.proofs.Common.{rules, ◌≡◌, arith}
use Rattle.commands.proofs.Rows.{reported_first, reported_next, reported_all}
use Rattle.commands.proofs.words.report.Goals as goal

pub loop-table-init : goal.loop-table-init
loop-table-init c = reported_first _ _ (search rules)

pub loop-table-preserved : goal.loop-table-preserved
loop-table-preserved c = reported_next _ _ _ _ _ _ _ c.loop-table.table c.loop-table.invariant (search rules) (search rules) (search rules)

pub returns : goal.returns
returns c =
    let n : c.loop-table.table ≡ 6 = omega (arith, c.loop-table-test.false, c.loop-table.auto) in
    reported_all _ _ _ _ _ _ c.loop-table.invariant n (search rules)
