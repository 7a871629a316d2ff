-- The values at the roots, of the symbols turned round.
use Rattle.std.proofs.Common.{◌≡◌, ℕ, ◌<◌, List, length, take, sym, subst, ◌∙◌, arith, rules}
use Rattle.std.proofs.lemmas.List.{length-take-le, get_or-take}
use Rattle.decoder.specs.Words.{Values, falling}
use Rattle.gf1024.specs.Field.{group, ring}
use Rattle.gf1024.specs.declared.element.Element.{Element}
use Rattle.code.specs.Lifting.{at, symbol, Falling}
use Rattle.code.proofs.WordRemainders.{register_values, turned}
use Rattle.code.proofs.full.FullEngine.find_syndromes.Goals as goal

pub returns : goal.returns
returns c =
    let r = c.args.remainder.now.symbols in
    let es = c.map-coefficients.result in
    let front : List Element = take 30 es in
    let roots = c.args.self.now.places.roots in
    let long : length es ≡ 33 = c.map-coefficients.ensures.items.long in
    let size : length front ≡ 30 = length-take-le 30 es (omega arith) in
    let is : (i : ℕ) → i < 30 → at front i ≡ symbol r i =
    λ i l. get_or-take 30 es i group.zero l ∙ (let h = c.map-coefficients.ensures.items.at i 0 group.zero (omega arith) in search rules) in
    let turns : Falling r 30 c.reverse.new.self = rw c.reverse.ensures.after (turned r front size is) in
    let count : length c.reverse.new.self ≡ 30 = c.reverse.ensures.len ∙ size in
    register_values r c.reverse.new.self roots c.evaluate.new.values turns c.args.self.now.places.powers (omega arith)
    (subst (λ (n : ℕ). Values group ring (falling group c.reverse.new.self n) n roots (length roots) c.evaluate.new.values) count (λ i l. c.evaluate.ensures.values i (omega arith)))

pub slice_bounds-coefficients-end-2 : goal.slice_bounds-coefficients-end-2
slice_bounds-coefficients-end-2 c = sym (length-take-le 30 c.map-coefficients.result (let l = c.map-coefficients.ensures.items.long in omega arith))
