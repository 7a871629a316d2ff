-- Tick words, a position more.
use Rattle.std.proofs.Common.{◌≡◌, ℕ, ◌+◌, ◌*◌, ◌<◌, List, length, map, drop, ap, ◌∙◌}
use Rattle.std.proofs.lemmas.List.{drop_more, get_or-map, length-map}
use Rattle.bits.specs.Bits.{bit, number, nth}

-- position k's bit comes below those of the positions above
pub word_more : (bytes : List ℕ) (t k : ℕ) → k < length bytes → number (drop k (map (λ b. bit b t) bytes)) ≡ bit (nth bytes k) t + 2 * number (drop (k + 1) (map (λ b. bit b t) bytes))
unfolding number
word_more bytes t k l =
    let bs : List ℕ = map (λ b. bit b t) bytes in
    let m : k < length bs = rw length-map l in
    ap number (drop_more bs k 0 m) ∙ ap (λ (b : ℕ). b + 2 * number (drop (k + 1) bs)) (get_or-map (λ b. bit b t) bytes k 0 0 l)
