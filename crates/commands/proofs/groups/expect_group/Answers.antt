use Rattle.std.proofs.Common.{rules, ◌≡◌, ap, ◌∙◌, sym, Ok, Err, refl}
use Rattle.std.proofs.lemmas.Result.{err_from_is_err_and}
use Rattle.blocks.specs.Calls.{outcome_of}
use Rattle.blocks.specs.Records.{look, rest_at}
use Rattle.commands.specs.Groups.{no_block}
use Rattle.commands.proofs.Records.{answered_ok, answered_err, all_left, none_left, refused_here, block_here}
use Rattle.commands.proofs.groups.expect_group.Goals as goal

pub loop-init : goal.loop-init
loop-init c = (search rules, search rules, 4, all_left 4 _)

pub returns-in_err-expect_block : goal.returns-in_err-expect_block
returns-in_err-expect_block c =
    let (src, index, k, left) = c.loop.invariant in
    let e = c.in_err-expect_block.field-0.0 in
    let gives = err_from_is_err_and c.from_residual.result c.from_residual.ensures.1 in
    let at : look c.loop.reader.index (rest_at c.loop.reader.src.now c.loop.reader.index) ≡ look c.loop.counter (rest_at c.args.records.now c.loop.counter) = rw (src, index) refl in
    let answer : outcome_of (tt {0}) (no_block (look c.loop.counter (rest_at c.args.records.now c.loop.counter))) ≡ Err e = ap (λ r. outcome_of (tt {0}) (no_block r)) (sym at) ∙ sym c.in_err-expect_block.ensures.answer in
    let whole = refused_here 4 c.loop.counter k c.args.records.now e c.loop-test.true left (answered_err (tt {0}) _ e answer) in
    rw whole (gives.1 ∙ ap Err gives.2)

pub loop-preserved : goal.loop-preserved
loop-preserved c =
    let (src, index, k, left) = c.loop.invariant in
    let at : look c.loop.reader.index (rest_at c.loop.reader.src.now c.loop.reader.index) ≡ look c.loop.counter (rest_at c.args.records.now c.loop.counter) = rw (src, index) refl in
    let answer : outcome_of (tt {0}) (no_block (look c.loop.counter (rest_at c.args.records.now c.loop.counter))) ≡ Ok c.in_ok-expect_block.field-0 = ap (λ r. outcome_of (tt {0}) (no_block r)) (sym at) ∙ sym c.in_ok-expect_block.ensures.answer in
    let next = block_here 4 c.loop.counter k c.args.records.now c.loop-test.true left (answered_ok (tt {0}) _ _ answer).0 in
    (search (rules, c.in_ok-expect_block.ensures.source), search (rules, c.in_ok-expect_block.ensures.index), next.0, next.1)

pub returns : goal.returns
returns c =
    let (src, index, k, left) = c.loop.invariant in
    rw (none_left 4 c.loop.counter k c.args.records.now c.loop-test.false left) refl
