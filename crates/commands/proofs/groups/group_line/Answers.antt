use Rattle.std.proofs.Common.{rules, ◌≡◌, ◌+◌, ◌<◌, ap, ◌∙◌, sym, refl, arith, Err, Some, inl, inr}
use Rattle.blocks.specs.declared.refusal.Refusal.TheVariants.{Kind}
use Rattle.commands.specs.Groups.{first_refused}
use Rattle.commands.specs.Lines.{line_of}
use Rattle.commands.proofs.Records.{answered_ok, answered_err, group_written, walk_refused, refused_from}
use Rattle.commands.proofs.groups.group_line.Goals as goal

pub returns-in-Ok : goal.returns-in-Ok
returns-in-Ok c =
    let h = answered_ok (tt {0}) _ _ (sym c.write_group.ensures.answer ∙ c.in-Ok.is) in
    let w = group_written c.args.before c.args.records.now _ (search rules) h.0 in
    record {
      answer = rw w.0 refl;
      text = c.line.ensures ∙ ap line_of (c.write_group.ensures.group ∙ w.1);
    }

pub unwrap_err-requires : goal.unwrap_err-requires
unwrap_err-requires c =
    let h = answered_err (tt {0}) _ _ (sym c.write_group.ensures.answer ∙ c.in-Err.is) in
    walk_refused c.args.records.now _ _ c.expect_group.result (search rules) (search rules) h c.expect_group.ensures

pub placed-requires : goal.placed-requires
placed-requires c =
    let e = c.unwrap_err.result in
    let room : c.args.before + 4 < 18446744073709551616 = search rules in
    let h : first_refused 4 0 c.args.records.now ≡ Some e = answered_err (tt {0}) _ _ (sym c.expect_group.ensures ∙ c.unwrap_err.ensures) in
    elim (refused_from 4 0 c.args.before c.args.records.now e h) [
      | inl (r, s) ↦ rw r (omega (arith, room))
      | inr (j, r, l, s) ↦ rw r (omega (arith, room))
    ]

pub returns-in-Err-clause-answer : goal.returns-in-Err-clause-answer
returns-in-Err-clause-answer c =
    let e = c.unwrap_err.result in
    let h : first_refused 4 0 c.args.records.now ≡ Some e = answered_err (tt {0}) _ _ (sym c.expect_group.ensures ∙ c.unwrap_err.ensures) in
    elim (refused_from 4 0 c.args.before c.args.records.now e h) [
      | inl (r, s) ↦ rw s (ap Err (c.placed.ensures.length r))
      | inr (j, r, l, s) ↦ rw s (ap Err (c.placed.ensures.kind (0 + j) r ∙ ap Kind (omega arith)))
    ]
