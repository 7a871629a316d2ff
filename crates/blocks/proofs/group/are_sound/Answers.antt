use Rattle.std.proofs.Common.{rules, ◌≡◌, ℕ, ◌<◌, length, Some, sym, ap, ◌∙◌, arith}
use Rattle.std.specs.List.{position}
use Rattle.blocks.specs.Blocks.{is_control}
use Rattle.blocks.specs.Groups.{headers, all_good}
use Rattle.blocks.proofs.Written.{place_found}
use Rattle.blocks.proofs.Returned.{bad_unsound, data_sound, control_sound}
use Rattle.blocks.proofs.group.are_sound.Goals as goal

pub returns-in-None : goal.returns-in-None
returns-in-None c =
    data_sound c.args.blocks (sym (c.are_good.ensures ∙ ap all_good c.headers_of-headers.ensures) ∙ c.if-are_good.true)
    (sym c.in-None.is ∙ c.first_control.ensures ∙ ap (position is_control) c.headers_of-headers.ensures)

pub returns-in-Some-eq0 : goal.returns-in-Some-eq0
returns-in-Some-eq0 c =
    c.has_type.ensures ∙ control_sound c.args.blocks (sym (c.are_good.ensures ∙ ap all_good c.headers_of-headers.ensures) ∙ c.if-are_good.true) 0 _
    (ap Some (sym c.in-Some-eq0.field-0-test) ∙ sym c.in-Some-eq0.is ∙ c.first_control.ensures ∙ ap (position is_control) c.headers_of-headers.ensures)

pub returns-in-Some-eq1 : goal.returns-in-Some-eq1
returns-in-Some-eq1 c =
    c.has_type-in-Some-eq1.ensures ∙ control_sound c.args.blocks (sym (c.are_good.ensures ∙ ap all_good c.headers_of-headers.ensures) ∙ c.if-are_good.true) 1 _
    (ap Some (sym c.in-Some-eq1.field-0-test) ∙ sym c.in-Some-eq1.is ∙ c.first_control.ensures ∙ ap (position is_control) c.headers_of-headers.ensures)

pub returns-in-Some-eq2 : goal.returns-in-Some-eq2
returns-in-Some-eq2 c =
    c.has_type-in-Some-eq2.ensures ∙ control_sound c.args.blocks (sym (c.are_good.ensures ∙ ap all_good c.headers_of-headers.ensures) ∙ c.if-are_good.true) 2 _
    (ap Some (sym c.in-Some-eq2.field-0-test) ∙ sym c.in-Some-eq2.is ∙ c.first_control.ensures ∙ ap (position is_control) c.headers_of-headers.ensures)

pub returns-in-Some : goal.returns-in-Some
returns-in-Some c =
    let at : ℕ = c.in-Some.field-0 in
    let e = sym c.in-Some.is ∙ c.first_control.ensures ∙ ap (position is_control) c.headers_of-headers.ensures in
    let n : length (headers c.args.blocks) ≡ 4 = search rules in
    let l : at < length (headers c.args.blocks) = (place_found _ at e).2 in
    let t = c.in-Some.field-0-test in
    let last : 3 ≡ at = grind (arith, n, l, t.0.0.1, t.0.1, t.1) in
    c.has_type-in-Some.ensures ∙ control_sound c.args.blocks (sym (c.are_good.ensures ∙ ap all_good c.headers_of-headers.ensures) ∙ c.if-are_good.true) 3 _
    (ap Some last ∙ e)

pub returns-else-are_good : goal.returns-else-are_good
returns-else-are_good c = c.if-are_good.false ∙ bad_unsound c.args.blocks (sym (c.are_good.ensures ∙ ap all_good c.headers_of-headers.ensures) ∙ c.if-are_good.false)
