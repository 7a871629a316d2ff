use Rattle.std.proofs.Common.{rules, ◌≡◌, sym, length}
use Rattle.commands.proofs.Rows.{past_rows, other_length, other_digit, same_first, same_next, same_row}
use Rattle.commands.proofs.words.Pair.is_row.Goals as goal

pub returns-then-row-row_count : goal.returns-then-row-row_count
returns-then-row-row_count c = sym (past_rows c.args.printed c.args.self.now.words c.args.row c.args.digits.now (search rules))

pub returns-then-digits-digit_count : goal.returns-then-digits-digit_count
returns-then-digits-digit_count c = sym (other_length c.args.printed c.args.self.now.words c.args.row c.args.digits.now (search rules))

pub loop-n-init : goal.loop-n-init
loop-n-init c = same_first _ _ _ _

pub returns-then-digits-n : goal.returns-then-digits-n
returns-then-digits-n c = sym (other_digit c.args.printed c.args.self.now.words c.args.row c.loop-n.n c.args.digits.now (search rules) (search rules))

pub loop-n-preserved : goal.loop-n-preserved
loop-n-preserved c = same_next c.args.printed c.args.self.now.words c.args.row c.args.digits.now c.loop-n.n c.loop-n.invariant (search rules)

pub returns : goal.returns
returns c =
    let n : c.loop-n.n ≡ length c.args.digits.now = search rules in
    sym (same_row c.args.printed c.args.self.now.words c.args.row c.args.digits.now (search rules) (search rules) (rw n at c.loop-n.invariant))
