use Rattle.std.proofs.Common.{◌≡◌, ℕ, zero, suc, ◌<◌, List, refl, ap, ◌∙◌, arith}
use Rattle.bits.specs.Bits.{nth}
use Rattle.pairs.specs.Packing.{word_of}
use Rattle.pairs.specs.Places.{one_of, word_at, index_at}
use Rattle.pairs.specs.declared.place.WordPlace.{WordPlace}
use Rattle.pairs.proofs.strip.Lane.symbol.Goals as goal

-- word A at 0, word B at 1
one_of_two : (words : List (List ℕ)) (w : ℕ) → w < 2 → word_of words w ≡ one_of w (word_of words 0) (word_of words 1)
one_of_two words zero h = refl
one_of_two words (suc zero) h = refl
one_of_two words (suc (suc w)) h = absurd (omega arith)

pub returns-clause-value : goal.returns-clause-value
returns-clause-value g c =
    let words : List (List ℕ) = c.args.self.now.words.now.words in
    let lane : ℕ = c.args.self.now.number in
    let row : ℕ = c.args.row in
    ap (λ (p : WordPlace). nth (word_of words p.word) p.index) c.word_place-place.ensures
    ∙ ap (λ (w : List ℕ). nth w (index_at g.R.Rate.layout.lanes lane row)) (one_of_two words (word_at lane row) (omega arith))
