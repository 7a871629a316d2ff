use Rattle.std.proofs.Common.{◌≡◌, ℕ, ◌+◌, ◌*◌, List, ◌++◌, map, length, position, sym, ap, ◌∙◌, ap₂, rules}
use Rattle.bits.specs.Bits.{field, number}
use Rattle.blocks.specs.Blocks.{second_bit, is_control}
use Rattle.blocks.specs.Groups.{all_good, without}
use Rattle.blocks.specs.declared.block.Header.{Header}
use Rattle.blocks.proofs.Written.{bad_group, data_group, control_group, none_found, place_found, flag_bits}
use Rattle.blocks.proofs.group.Group.of.Goals as goal

pub returns-then-not-are_good : goal.returns-then-not-are_good
returns-then-not-are_good c =
    bad_group _ _ (sym (c.are_good.ensures ∙ ap all_good c.headers_of-headers.ensures) ∙ c.if-not-are_good.true) (c.without_digit.ensures ∙ ap (λ (s : List ℕ). field 15 0 4 ++ without 4 s) c.payloads_of-payloads.ensures)

pub returns-in-None : goal.returns-in-None
returns-in-None c =
    let f = sym c.in-None.is ∙ c.first_control.ensures ∙ ap (position is_control) c.headers_of-headers.ensures in
    data_group _ _ (sym (c.are_good.ensures ∙ ap all_good c.headers_of-headers.ensures) ∙ c.if-not-are_good.false) (none_found _ f) c.payloads_of-payloads.ensures

pub returns-in-Some : goal.returns-in-Some
returns-in-Some c =
    let hs : List Header = c.headers_of-headers.result in
    let at : ℕ = c.in-Some.at in
    let p = place_found _ at (sym c.in-Some.is ∙ c.first_control.ensures ∙ ap (position is_control) c.headers_of-headers.ensures) in
    let n : length hs ≡ 4 = search rules in
    let b : field (number (map second_bit hs)) 0 4 ≡ map second_bit hs = ap (field (number (map second_bit hs)) 0) (sym n) ∙ flag_bits hs in
    control_group _ _ at (sym (c.are_good.ensures ∙ ap all_good c.headers_of-headers.ensures) ∙ c.if-not-are_good.false) p.0 p.1
    (c.without_digit-in-Some.ensures
    ∙ ap₂ (λ (fs s : List ℕ). fs ++ without (64 * at + 4) s)
    (ap (λ (x : ℕ). field x 0 4) c.flags.ensures ∙ b ∙ ap (map second_bit) c.headers_of-headers.ensures)
    c.payloads_of-payloads.ensures)
