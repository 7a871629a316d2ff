use Rattle.std.proofs.Common.{◌≡◌, ℕ, ◌+◌, ◌-◌, List, length, take, drop, Some, Ok, Err, sym, ap, ◌∙◌, length-drop, arith, rules}
use Rattle.std.proofs.lemmas.List.{nil_from_length, take_all}
use Rattle.std.proofs.lemmas.Result.{err_from_is_err_and}
use Rattle.blocks.specs.Records.{Item, item_of}
use Rattle.blocks.specs.Walk.{kind_byte, item, shown}
use Rattle.blocks.specs.declared.refusal.Refusal.TheVariants.{Kind}
use Rattle.blocks.proofs.Walking.{at_end, unknown, front_and_rest, cut_short, stands, offset_on, goes_on}
use Rattle.blocks.proofs.reader.Reader.next.Goals as goal

pub returns-in_default-clause-answer : goal.returns-in_default-clause-answer
returns-in_default-clause-answer c =
    let me = c.args.self.now in
    let n : length me.rest.now ≡ 0 = omega arith in
    sym (at_end me.src.now me.index (sym me.placed ∙ nil_from_length _ n))

pub returns-in_err-kind-clause-answer : goal.returns-in_err-kind-clause-answer
returns-in_err-kind-clause-answer c =
    let me = c.args.self.now in
    let p = err_from_is_err_and c.from_residual.result c.from_residual.ensures.1 in
    let r : c.in_err-kind.field-0.0 ≡ Kind me.index = search rules in
    ap shown (p.1 ∙ ap Err (p.2 ∙ r)) ∙ sym (unknown me.src.now me.index _ _ (sym me.placed ∙ front_and_rest me.rest.now (omega arith)) (search rules))

pub returns-then-rest-end-clause-answer : goal.returns-then-rest-end-clause-answer
returns-then-rest-end-clause-answer c =
    let me = c.args.self.now in
    let l : length (drop 1 me.rest.now) ≡ length me.rest.now - 1 = length-drop 1 me.rest.now in
    sym (cut_short _ _ _ _ _ c.in_ok-kind.kind _ me.placed (front_and_rest me.rest.now (omega arith)) (search rules) c.body_size-end.ensures.value (omega arith))

pub invariant_of-self : goal.invariant_of-self
invariant_of-self c =
    let me = c.args.self.now in
    let size : ℕ = c.body_size-end.result in
    let e = front_and_rest me.rest.now (omega arith) in
    let d : length (drop (1 + size) me.rest.now) ≡ length me.rest.now - (1 + size) = length-drop (1 + size) me.rest.now in
    let all : take (length me.rest.now - (1 + size)) (drop (1 + size) me.rest.now) ≡ drop (1 + size) me.rest.now = take_all _ _ (omega arith) in
    let on = offset_on _ _ _ _ _ c.in_ok-kind.kind size me.placed e (search rules) c.body_size-end.ensures.value in
    record {
      counted = omega (arith, me.counted, ap length all, d);
      placed = all ∙ goes_on _ _ _ _ _ c.in_ok-kind.kind size me.placed e (search rules) c.body_size-end.ensures.value;
      lent = search (rules, on);
    }

pub returns-clause-answer : goal.returns-clause-answer
returns-clause-answer c =
    let me = c.args.self.now in
    let kind = c.in_ok-kind.kind in
    let rest : List ℕ = drop 1 me.rest.now in
    let l : length rest ≡ length me.rest.now - 1 = length-drop 1 me.rest.now in
    let z : 1 + c.body_size-end.result - 1 ≡ c.body_size-end.result = omega arith in
    let whole : item c.record.result ≡ item_of (kind_byte kind) (take c.body_size-end.result rest) = search (rules, z) in
    ap (λ (x : Item). Ok (Some (me.index, x))) whole
    ∙ sym (stands _ _ _ _ rest kind _ me.placed (front_and_rest me.rest.now (omega arith)) (search rules) c.body_size-end.ensures.value (omega arith))
