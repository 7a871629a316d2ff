-- Word by word.
use Rattle.std.proofs.Common.{◌≡◌, ℕ, ◌<◌, length, rules, ◌∙◌, sym, arith}
use Rattle.std.proofs.lemmas.Grind.{same_number_lists}
use Rattle.bits.specs.Bits.{table, nth}
use Rattle.bits.proofs.Tables.{length-table, nth-table}
use Rattle.hunt.specs.Words.{word_at}
use Rattle.hunt.proofs.words.words_of.Goals as goal

pub returns : goal.returns
returns c =
    let f : ℕ → ℕ = word_at c.args.bytes in
    let long : length c.from_fn.result ≡ 8 = search rules in
    same_number_lists c.from_fn.result (table 8 f) (long ∙ sym (length-table 8 f)) (λ k l.
    let below : k < 8 = omega arith in
    let h = c.from_fn.ensures.items.at k 0 below in
    let same : nth c.from_fn.result k ≡ f k = search rules in
    same ∙ sym (nth-table 8 f k below))
