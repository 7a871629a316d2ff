use Rattle.std.proofs.Common.{◌≡◌, ℕ, List, ◌∷◌, length, get_or, set, sym, ap, ◌∙◌, rules}
use Rattle.blocks.specs.Groups.{words, one_if, group_octets}
use Rattle.blocks.proofs.Parts.{four_of}
use Rattle.blocks.proofs.Placing.{laid_out}
use Rattle.blocks.proofs.octets.put_group.Goals as goal

pub returns : goal.returns
returns c =
    let ps : List ℕ = c.args.group.parts in
    let n : length ps ≡ 4 = search rules in
    laid_out (one_if c.args.group.first) (get_or ps 0 0) (get_or ps 1 0) (get_or ps 2 0) (get_or ps 3 0) c.args.out.now _ _ _ _ _ c.requires (ap (set c.args.out.now 0) c.from.ensures) c.store.ensures c.store-2.ensures c.store-3.ensures c.store-4.ensures
    ∙ ap (λ (l : List ℕ). group_octets (one_if c.args.group.first ∷ words l)) (sym (four_of 0 ps n))
