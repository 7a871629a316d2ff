use Rattle.std.proofs.Common.{rules, ◌≡◌, ◌++◌, ap, ◌∙◌, arith}
use Rattle.commands.specs.Repair.{damaged, damage_lines}
use Rattle.commands.proofs.Repairs.{stepped_first, stepped_next}
use Rattle.commands.proofs.repair.damage.Goals as goal

pub loop-step-init : goal.loop-step-init
loop-step-init c = stepped_first _ _ _ c.requires.1

pub loop-step-preserved : goal.loop-step-preserved
loop-step-preserved c = stepped_next _ _ _ _ _ _ _ _ c.loop-step.step c.loop-step.invariant c.symbol.ensures.number (search rules) (search rules)

pub returns : goal.returns
returns c =
    let n : c.loop-step.step ≡ c.args.count = omega (arith, c.loop-step-test.false, c.loop-step.auto) in
    (c.loop-step.invariant.word_is ∙ ap (damaged c.args.word.now) n, c.loop-step.invariant.text_is ∙ ap (λ m. c.args.text.now.items ++ damage_lines c.args.word.now m) n)
