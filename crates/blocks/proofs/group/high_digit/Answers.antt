use Rattle.std.proofs.Common.{◌≡◌, ◌/◌, ◌%◌, ℕ, eqb, ap, ◌∙◌, rules, tests, Bor}
use Rattle.std.specs.Option.{option_map}
use Rattle.std.specs.List.{find}
use Rattle.std.proofs.lemmas.Iterator.{YieldsList-from_slice}
use Rattle.std.proofs.lemmas.Iterator.Search.{find_from_yields_List}
use Rattle.blocks.specs.Groups.{high_digit, types}
use Rattle.blocks.proofs.Returned.{fitting_found}
use Rattle.blocks.proofs.group.high_digit.Goals as goal

pub returns : goal.returns
unfolding high_digit types
returns c =
    let f : option_map (λ (t : Bor ℕ). t.now) c.find.result ≡ find (λ (t : ℕ). eqb (t % 16) c.args.low) types =
    find_from_yields_List (λ (t : ℕ). eqb (t % 16) c.args.low) _ _ c.find.result c.find.ensures.ran (YieldsList-from_slice types cc) (λ x b q k. search (rules, tests)) in
    let e : c.map.result ≡ option_map (λ (t : ℕ). t / 16) (option_map (λ (t : Bor ℕ). t.now) c.find.result) = search rules in
    e ∙ ap (option_map (λ (t : ℕ). t / 16)) f ∙ fitting_found types c.args.low
