use Rattle.std.proofs.Common.{rules, ◌≡◌, ◌/◌, ◌+◌, ◌++◌, ◌∷◌, [], ap, ◌∙◌, sym, arith}
use Rattle.commands.specs.Repair.{number_after, symbols, next_number}
use Rattle.commands.proofs.Repairs.{next_is, symbols_first, symbols_next}
use Rattle.commands.proofs.repair.draw_message.Goals as goal

pub loop-n-init : goal.loop-n-init
loop-n-init c = (c.new-message.ensures.items ∙ sym symbols_first, c.requires)

pub loop-n-preserved : goal.loop-n-preserved
loop-n-preserved c =
    let number : c.symbol.new.self.number ≡ number_after (c.loop-n._n + 1) = c.symbol.ensures.number ∙ ap next_number c.loop-n.invariant.1 ∙ sym (next_is c.loop-n._n) in
    let x : c.symbol.result ≡ number_after (c.loop-n._n + 1) / 4194304 = c.symbol.ensures.symbol ∙ ap (λ n. n / 4194304) number in
    (search rules ∙ ap (λ l. l ++ c.symbol.result ∷ []) c.loop-n.invariant.0 ∙ sym (symbols_next c.loop-n._n c.symbol.result x), number)

pub returns : goal.returns
returns c =
    let n : c.loop-n._n ≡ 514 = omega (arith, c.loop-n-test.false, c.loop-n.auto) in
    (c.loop-n.invariant.0 ∙ ap symbols n, c.loop-n.invariant.1 ∙ ap number_after n)
