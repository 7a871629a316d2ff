-- Where each record of a buffer begins.
use Rattle.std.proofs.Common.{◌≡◌, ℕ, ◌+◌, List, ◌∷◌, drop, sym, refl, ap, ◌∙◌, one-add, add-one}
use Rattle.std.proofs.lemmas.List.{drop-drop}
use Rattle.blocks.specs.Records.{size_of, record_size, offset_of, rest_at}
use Rattle.commands.specs.Walks.{behind}

pub behind_first : (k : ℕ) (xs : List ℕ) → behind (k ∷ xs) ≡ drop (size_of k) xs
behind_first k xs = ap (λ n. drop n (k ∷ xs)) (one-add (size_of k))

pub rest_first : (xs : List ℕ) → rest_at xs 0 ≡ xs
unfolding offset_of
rest_first xs = refl

pub rest_next : (xs : List ℕ) (n : ℕ) → rest_at xs (n + 1) ≡ behind (rest_at xs n)
unfolding offset_of
rest_next xs n = ap (rest_at xs) (add-one n) ∙ sym (drop-drop (record_size (rest_at xs n)) (offset_of xs n) xs)
