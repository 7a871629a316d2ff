use Rattle.std.proofs.Common.{rules, ◌≡◌, ◌+◌, ◌++◌, ap, ◌∙◌, sym, subst, Ok, Err, None, Some}
use Rattle.blocks.specs.Records.{look, rest_at, moved}
use Rattle.blocks.specs.Walk.{item, shown}
use Rattle.commands.specs.Text.{item_line}
use Rattle.commands.proofs.Listing.{Listed, fewer, listed_first, listed_next, listed_end, listed_refused}
use Rattle.commands.proofs.text.text_of_records.Goals as goal

pub loop-record-init : goal.loop-record-init
loop-record-init c = (search rules, subst (λ i. Listed c.args.records.now c.new-text.result.items i) (sym c.new-reader.ensures.index) (subst (λ t. Listed c.args.records.now t 0) (sym c.new-text.ensures.items) (listed_first c.args.records.now)))

pub loop-record-smaller : goal.loop-record-smaller
loop-record-smaller c =
    let old = c.loop-record.reader in
    let e = c.in-Ok-Some.field-0-is in
    let found : look old.index (rest_at old.src.now old.index) ≡ Ok (Some (c.in-Ok-Some.field-0-0-0, item c.in-Ok-Some.record)) = sym c.in-Ok-Some.ensures.answer ∙ ap (λ o. shown (Ok o)) e in
    fewer old.src.now c.next.new.self.src.now old.index c.next.new.self.index _ (ap (λ b. b.now) c.in-Ok-Some.ensures.source) (c.in-Ok-Some.ensures.index ∙ ap (λ o. moved (shown (Ok o)) old.index) e) found

pub loop-record-preserved : goal.loop-record-preserved
loop-record-preserved c =
    let old = c.loop-record.reader in
    let (src, before) = c.loop-record.invariant in
    let found : look old.index (rest_at c.args.records.now old.index) ≡ Ok (Some (c.in-Ok-Some.field-0-0-0, item c.in-Ok-Some.record)) = ap (λ xs. look old.index (rest_at xs old.index)) (sym src) ∙ sym c.in-Ok-Some.ensures.answer ∙ ap (λ o. shown (Ok o)) c.in-Ok-Some.field-0-is in
    let next = listed_next c.args.records.now c.loop-record.text.items old.index _ before found in
    let text : c.push_line.new.text.items ≡ c.loop-record.text.items ++ item_line (item c.in-Ok-Some.record) = c.in_ok-push_line-in-Ok-Some.ensures in
    let index : c.next.new.self.index ≡ old.index + 1 = c.in-Ok-Some.ensures.index ∙ ap (λ o. moved (shown (Ok o)) old.index) c.in-Ok-Some.field-0-is in
    (ap (λ b. b.now) c.in-Ok-Some.ensures.source ∙ src, rw (text, index) next)

pub returns-in-Ok-None : goal.returns-in-Ok-None
returns-in-Ok-None c =
    let old = c.loop-record.reader in
    let (src, before) = c.loop-record.invariant in
    let found : look old.index (rest_at c.args.records.now old.index) ≡ Ok None = ap (λ xs. look old.index (rest_at xs old.index)) (sym src) ∙ sym c.in-Ok-None.ensures.answer ∙ ap (λ o. shown (Ok o)) c.in-Ok-None.field-0-is in
    listed_end c.args.records.now c.loop-record.text.items old.index before found

pub returns-in-Err : goal.returns-in-Err
returns-in-Err c =
    let old = c.loop-record.reader in
    let (src, before) = c.loop-record.invariant in
    let found : look old.index (rest_at c.args.records.now old.index) ≡ Err c.in-Err.refusal = ap (λ xs. look old.index (rest_at xs old.index)) (sym src) ∙ sym c.in-Err.ensures.answer in
    let all = listed_refused c.args.records.now c.loop-record.text.items old.index c.in-Err.refusal before found in
    (search rules ∙ all.0, all.1)
