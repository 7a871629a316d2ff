use Rattle.std.proofs.Common.{rules, ◌≡◌, ◌*◌, ◌<◌, [], take, length, ap, ◌∙◌, sym, arith, refl, subst}
use Rattle.std.specs.Io.KnownBytes.{Appends}
use Rattle.std.specs.declared.io.Error.{Error}
use Rattle.commands.specs.Groups.{first_refused}
use Rattle.commands.specs.Streams.{AppendsFront}
use Rattle.commands.proofs.Printing.{group_text, stands_first, first_cut, cut_between, all_printed, refusal_printed, refusal_cut, group_printed, group_cut, took, Took}
use Rattle.commands.proofs.Records.{answered_ok, answered_err}
use Rattle.commands.proofs.groups.print_groups.Goals as goal

pub returns-in_err-put-clause-prints : goal.returns-in_err-put-clause-prints
returns-in_err-put-clause-prints g c = first_cut _ _ _ _ c.from_residual.ensures.0 c.in_err-put.ensures

pub loop-group-init : goal.loop-group-init
loop-group-init g c = stands_first _ _ _ c.in_ok-put.ensures

pub returns-in_err-n-clause-prints : goal.returns-in_err-n-clause-prints
returns-in_err-n-clause-prints g c = cut_between _ _ _ _ _ _ c.from_residual-in_err-n.ensures.0 c.loop-group.invariant

pub returns-then-n-eq0-clause-prints : goal.returns-then-n-eq0-clause-prints
returns-then-n-eq0-clause-prints g c =
    let t = took _ _ c.in_ok-n.n c.fill.new.buf (search rules) c.in_ok-n.ensures.bound.0 c.in_ok-n.ensures.bytes in
    let none : take c.in_ok-n.n c.fill.new.buf ≡ [] = ap (λ n. take n c.fill.new.buf) c.if-n-eq0.true in
    (all_printed Error _ _ _ _ _ c.loop-group.group c.loop-group.invariant (subst (Took _ _) none t)).0

pub returns-then-n-eq0-clause-answer : goal.returns-then-n-eq0-clause-answer
returns-then-n-eq0-clause-answer g c =
    let t = took _ _ c.in_ok-n.n c.fill.new.buf (search rules) c.in_ok-n.ensures.bound.0 c.in_ok-n.ensures.bytes in
    let none : take c.in_ok-n.n c.fill.new.buf ≡ [] = ap (λ n. take n c.fill.new.buf) c.if-n-eq0.true in
    (all_printed Error _ _ _ (g.W.Write.contents c.args.out.now) _ c.loop-group.group c.loop-group.invariant (subst (Took _ _) none t)).1

pub returns-in_err-put-in-Ok-clause-prints : goal.returns-in_err-put-in-Ok-clause-prints
returns-in_err-put-in-Ok-clause-prints g c =
    let piece = take c.in_ok-n.n c.fill.new.buf in
    let t = took _ _ c.in_ok-n.n c.fill.new.buf (search rules) c.in_ok-n.ensures.bound.0 c.in_ok-n.ensures.bytes in
    let h = answered_ok (tt {0}) _ (first_refused 4 (4 * c.loop-group.group) piece) (sym c.group_line.ensures.answer ∙ c.in-Ok.is) in
    let line : c.group_line.new.text ≡ group_text piece = search rules in
    group_cut _ _ _ _ _ _ c.loop-group.group piece _ c.from_residual-in_err-put-in-Ok.ensures.0 c.loop-group.invariant t h.0 (subst (AppendsFront _ _) line c.in_err-put-in-Ok.ensures)

pub loop-group-preserved : goal.loop-group-preserved
loop-group-preserved g c =
    let piece = take c.in_ok-n.n c.fill.new.buf in
    let t = took _ _ c.in_ok-n.n c.fill.new.buf (search rules) c.in_ok-n.ensures.bound.0 c.in_ok-n.ensures.bytes in
    let h = answered_ok (tt {0}) _ (first_refused 4 (4 * c.loop-group.group) piece) (sym c.group_line.ensures.answer ∙ c.in-Ok.is) in
    let line : c.group_line.new.text ≡ group_text piece = search rules in
    group_printed _ _ _ _ _ _ c.loop-group.group piece c.loop-group.invariant t h.0 (subst (Appends _ _) line c.in_ok-put-in-Ok.ensures)

pub returns-in_err-refusal_line-in-Err-clause-prints : goal.returns-in_err-refusal_line-in-Err-clause-prints
returns-in_err-refusal_line-in-Err-clause-prints g c = cut_between _ _ _ _ _ _ c.from_residual-in_err-refusal_line-in-Err.ensures.0 c.loop-group.invariant

pub returns-in_err-put-in-Err-clause-prints : goal.returns-in_err-put-in-Err-clause-prints
returns-in_err-put-in-Err-clause-prints g c =
    let piece = take c.in_ok-n.n c.fill.new.buf in
    let t = took _ _ c.in_ok-n.n c.fill.new.buf (search rules) c.in_ok-n.ensures.bound.0 c.in_ok-n.ensures.bytes in
    let h = answered_err (tt {0}) (first_refused 4 (4 * c.loop-group.group) piece) c.in-Err.refusal (sym c.group_line.ensures.answer ∙ c.in-Err.is) in
    let some : 0 < length piece = omega (arith, c.in_ok-n.ensures.bound.1) in
    refusal_cut _ _ _ _ _ _ c.loop-group.group piece c.in-Err.refusal _ c.from_residual-in_err-put-in-Err.ensures.0 c.loop-group.invariant t some h (subst (AppendsFront _ _) (search rules) c.in_err-put-in-Err.ensures)

pub returns-in-Err-clause-prints : goal.returns-in-Err-clause-prints
returns-in-Err-clause-prints g c =
    let piece = take c.in_ok-n.n c.fill.new.buf in
    let t = took _ _ c.in_ok-n.n c.fill.new.buf (search rules) c.in_ok-n.ensures.bound.0 c.in_ok-n.ensures.bytes in
    let h = answered_err (tt {0}) (first_refused 4 (4 * c.loop-group.group) piece) c.in-Err.refusal (sym c.group_line.ensures.answer ∙ c.in-Err.is) in
    let some : 0 < length piece = omega (arith, c.in_ok-n.ensures.bound.1) in
    (refusal_printed Error _ _ _ _ _ _ c.loop-group.group piece c.in-Err.refusal c.loop-group.invariant t some h (subst (Appends _ _) (search rules) c.in_ok-put-in-Err.ensures)).0

pub returns-in-Err-clause-answer : goal.returns-in-Err-clause-answer
returns-in-Err-clause-answer g c =
    let piece = take c.in_ok-n.n c.fill.new.buf in
    let t = took _ _ c.in_ok-n.n c.fill.new.buf (search rules) c.in_ok-n.ensures.bound.0 c.in_ok-n.ensures.bytes in
    let h = answered_err (tt {0}) (first_refused 4 (4 * c.loop-group.group) piece) c.in-Err.refusal (sym c.group_line.ensures.answer ∙ c.in-Err.is) in
    let some : 0 < length piece = omega (arith, c.in_ok-n.ensures.bound.1) in
    (refusal_printed Error _ _ _ _ _ _ c.loop-group.group piece c.in-Err.refusal c.loop-group.invariant t some h (subst (Appends _ _) (search rules) c.in_ok-put-in-Err.ensures)).1

pub returns-clause-prints : goal.returns-clause-prints
returns-clause-prints g c = cut_between _ _ _ _ _ _ refl c.loop-group.invariant
