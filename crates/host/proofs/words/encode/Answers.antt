use Rattle.std.proofs.Common.{◌≡◌, ℕ, List, Result, length, replicate, refl, sym, ap, ◌∙◌}
use Rattle.std.specs.Result.{result_map_both, result_unwrap_or}
use Rattle.code.specs.Answers.{encoding, encode_answer}
use Rattle.code.specs.declared.refusal.Refusal.{Refusal}
use Rattle.host.specs.Crossing.{symbols_in, symbol_octets}
use Rattle.host.proofs.Crossed.{handed_on, left_by_err, left_by_ok}
use Rattle.host.proofs.Octets.{length-symbols_in}
use Rattle.host.proofs.Lengths.{encoding-length, encoding-word}
use Rattle.host.proofs.words.encode.Goals as goal

pub returns-then-message-ne-MESSAGE-clause-answer : goal.returns-then-message-ne-MESSAGE-clause-answer
returns-then-message-ne-MESSAGE-clause-answer c = rw (encoding-length c.args.message.now c.args.word.now c.then-message-ne-MESSAGE.either) refl

pub returns-then-message-ne-MESSAGE-clause-word : goal.returns-then-message-ne-MESSAGE-clause-word
returns-then-message-ne-MESSAGE-clause-word c = rw (encoding-length c.args.message.now c.args.word.now c.then-message-ne-MESSAGE.either) refl

alike : (message word : List ℕ) → length word ≡ 1088 → encoding (symbols_in message) (replicate 544 0) ≡ encoding (symbols_in message) (symbols_in word)
alike message word h = encoding-word (symbols_in message) (replicate 544 0) (symbols_in word) refl (length-symbols_in word 544 h)

pub returns-in_err-encode-clause-answer : goal.returns-in_err-encode-clause-answer
returns-in_err-encode-clause-answer c =
    handed_on c.from_residual.result c.in_err-encode.field-0.0 c.from_residual.ensures.1
    ∙ sym c.in_err-encode.was ∙ c.encode.ensures.answer
    ∙ ap (λ (m : List ℕ). encode_answer m (replicate 544 0)) c.load-sent.ensures
    ∙ ap (result_map_both (λ (w : List ℕ). tt) (λ (e : Refusal). e)) (alike c.args.message.now c.args.word.now c.if-word-ne-WORD.false)

pub returns-in_err-encode-clause-word : goal.returns-in_err-encode-clause-word
returns-in_err-encode-clause-word c =
    left_by_err (encoding (symbols_in c.args.message.now) (symbols_in c.args.word.now)) c.in_err-encode.field-0.0 c.args.word.now
    (sym (returns-in_err-encode-clause-answer c) ∙ handed_on c.from_residual.result c.in_err-encode.field-0.0 c.from_residual.ensures.1)

pub returns-clause-answer : goal.returns-clause-answer
returns-clause-answer c =
    sym c.in_ok-encode.was ∙ c.encode.ensures.answer
    ∙ ap (λ (m : List ℕ). encode_answer m (replicate 544 0)) c.load-sent.ensures
    ∙ ap (result_map_both (λ (w : List ℕ). tt) (λ (e : Refusal). e)) (alike c.args.message.now c.args.word.now c.if-word-ne-WORD.false)

pub returns-clause-word : goal.returns-clause-word
returns-clause-word c =
    let m : List ℕ = symbols_in c.args.message.now in
    let w : List ℕ = symbols_in c.args.word.now in
    let zeros : List ℕ = replicate 544 0 in
    c.store.ensures ∙ ap symbol_octets c.encode.ensures.word
    ∙ ap (λ (s : List ℕ). symbol_octets (result_unwrap_or (encoding s zeros) zeros)) c.load-sent.ensures
    ∙ ap (λ (r : Result (List ℕ) Refusal). symbol_octets (result_unwrap_or r zeros)) (alike c.args.message.now c.args.word.now c.if-word-ne-WORD.false)
    ∙ left_by_ok (encoding m w) zeros c.args.word.now (sym (returns-clause-answer c))
