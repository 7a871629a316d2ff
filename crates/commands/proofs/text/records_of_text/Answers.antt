use Rattle.std.proofs.Common.{◌≡◌, ℕ, ◌+◌, List, [], ◌∷◌, eqb, Ok, ap, ◌∙◌, sym}
use Rattle.std.specs.List.{slice_split}
use Rattle.commands.specs.Text.{line_record, records_in}
use Rattle.commands.proofs.TextLines.{prepended, record_read, line_wrong, all_read, was_record, was_wrong, some_line}
use Rattle.commands.proofs.text.records_of_text.Goals as goal

split : List ℕ → List (List ℕ)
split text = slice_split (λ b. eqb b 10) text

pub returns-in-Some-clause-wrong : goal.returns-in-Some-clause-wrong
unfolding split
returns-in-Some-clause-wrong c =
    let line = some_line c.first_line.result.1 (λ r. split r.now) (split c.loop-line.rest.now) c.first_line.result.0.now c.first_line.ensures in
    let e = was_wrong _ _ _ _ c.in-Some.expected c.in_ok-expected.ensures c.in-Some.is in
    line_wrong _ c.loop-line.records.items c.loop-line.line _ line.0 c.in-Some.expected (c.loop-line.invariant ∙ ap (λ s. prepended c.loop-line.records.items (records_in c.loop-line.line s)) line.1) e

pub returns-in-None-clause-records : goal.returns-in-None-clause-records
unfolding split
returns-in-None-clause-records c =
    let line : split c.loop-line.rest.now ≡ c.first_line.result.0.now ∷ [] = rw c.in-None.is at c.first_line.ensures in
    let r = was_record (line_record c.first_line.result.0.now) c.in_ok-expected.field-0 c.loop-line.records.items c.push_record.new.records.items c.in_ok-expected.ensures c.in_default.is in
    let read = record_read _ c.loop-line.records.items r.0 c.loop-line.line _ [] (c.loop-line.invariant ∙ ap (λ s. prepended c.loop-line.records.items (records_in c.loop-line.line s)) line) r.1 in
    all_read _ _ _ read ∙ ap Ok (sym r.2)

pub loop-line-preserved : goal.loop-line-preserved
unfolding split
loop-line-preserved c =
    let later = c.in-Some-later.later.now in
    let line : split c.loop-line.rest.now ≡ c.first_line.result.0.now ∷ split later = rw c.in-Some-later.is at c.first_line.ensures in
    let r = was_record (line_record c.first_line.result.0.now) c.in_ok-expected.field-0 c.loop-line.records.items c.push_record.new.records.items c.in_ok-expected.ensures c.in_default.is in
    record_read _ c.loop-line.records.items r.0 c.loop-line.line _ (split later) (c.loop-line.invariant ∙ ap (λ s. prepended c.loop-line.records.items (records_in c.loop-line.line s)) line) r.1
    ∙ ap (λ l. prepended l (records_in (c.loop-line.line + 1) (split later))) (sym r.2)
