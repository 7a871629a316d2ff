-- The message with its remainder is the codeword; the refusals are those of the definition.
use Rattle.std.proofs.Common.{◌≡◌, List, ℕ, ◌++◌, take, Ok, Err, ap₂, subst, refl}
use Rattle.std.proofs.lemmas.Result.{err_from_is_err_and}
use Rattle.code.specs.declared.refusal.Refusal.{Refusal}
use Rattle.code.specs.declared.refusal.Refusal.TheVariants.{Length}
use Rattle.code.specs.Code.{codeword_of}
use Rattle.code.specs.Laws.{Encoded}
use Rattle.code.proofs.Division.{encoded}
use Rattle.code.proofs.Encodings.{encoding-size, encoding-malformed, encoding-message, encode_laws, Encoding, encoding_is}
use Rattle.code.proofs.Named.{named}
use Rattle.code.proofs.encoder.encode.Goals as goal

pub returns-then-word-ne-SIZE : goal.returns-then-word-ne-SIZE
returns-then-word-ne-SIZE c =
    let w : List ℕ = c.args.word.now in
    let t = encoding_is c.args.message.now w w (Err Length) (Err Length) (encoding-size c.args.message.now w c.if-word-ne-SIZE.true) refl refl in
    record { answer = t.answer; word = t.word; laws = encode_laws }

pub returns-in_err-message : goal.returns-in_err-message
returns-in_err-message c =
    let w : List ℕ = c.args.word.now in
    let e : Refusal = c.in_err-message.field-0.0 in
    let p = err_from_is_err_and c.from_residual.result c.from_residual.ensures.1 in
    let t = encoding_is c.args.message.now w w (Err e) (Err e) (encoding-malformed c.args.message.now w e c.if-word-ne-SIZE.false c.in_err-message.ensures) refl refl in
    rw (p.1, p.2) (record { answer = t.answer; word = t.word; laws = encode_laws })

pub returns : goal.returns
returns c =
    let m = c.in_ok-message.message in
    let r = c.divide-register.result.symbols in
    let w : List ℕ = c.args.word.now in
    let word : List ℕ = c.copy_from_slice.new.self ++ c.copy_from_slice-2.new.self in
    let is : word ≡ m.symbols.now ++ take 30 r = ap₂ (λ a b. a ++ b) c.copy_from_slice.ensures.after c.copy_from_slice-2.ensures.after in
    let e : Encoded m.symbols.now word = encoded m.symbols.now r word m.whole m.small c.divide-register.ensures is in
    let t = encoding_is m.symbols.now w word (Ok tt) (Ok (codeword_of m.symbols.now)) (encoding-message m.symbols.now w c.if-word-ne-SIZE.false m.whole m.small) (named m.symbols.now word e.codeword e.begins e.only) refl in
    let p = subst (λ x. Encoding x w word (Ok tt)) c.in_ok-message.ensures t in
    record { answer = p.answer; word = p.word; laws = encode_laws }
