-- A group on its way: bit 0, then word by word.
use Rattle.std.proofs.Common.{◌≡◌, ℕ, ◌+◌, ◌<◌, List, [], ◌∷◌, ◌++◌, take, set, length, get_or, sym, refl, ap, ◌∙◌, ap₂, append-nil, append_assoc, add-one}
use Rattle.std.proofs.lemmas.List.{take_more_set}
use Rattle.std.proofs.Math.Seq.{take-suc}
use Rattle.bits.specs.Bits.{field}
use Rattle.blocks.specs.Groups.{words}
use Rattle.blocks.specs.Scrambled.{InParts}

words_append : (xs ys : List ℕ) → words (xs ++ ys) ≡ words xs ++ words ys
words_append [] ys = refl
words_append (x ∷ xs) ys = ap (λ (l : List ℕ). field x 0 64 ++ l) (words_append xs ys) ∙ sym (append_assoc (field x 0 64) (words xs) (words ys))

words_snoc : (xs : List ℕ) (x : ℕ) → words (xs ++ (x ∷ [])) ≡ words xs ++ field x 0 64
words_snoc xs x = words_append xs (x ∷ []) ∙ ap (λ (l : List ℕ). words xs ++ l) (append-nil (field x 0 64))

words_set : (ys : List ℕ) (n y : ℕ) → n < length ys → words (take (n + 1) (set ys n y)) ≡ words (take n ys) ++ field y 0 64
words_set ys n y h = ap words (take_more_set ys n y h) ∙ words_snoc (take n ys) y

pub words_more : (xs : List ℕ) (n : ℕ) → n < length xs → words (take (n + 1) xs) ≡ words (take n xs) ++ field (get_or xs n 0) 0 64
words_more xs n h = ap words (ap (λ (k : ℕ). take k xs) (add-one n) ∙ take-suc xs n 0 h) ∙ words_snoc (take n xs) (get_or xs n 0)

-- Bit f gave bit g, and the first n words of xs gave those of ys: a memory m came to the memory `now`.
pub record Passed (S T : List ℕ → List ℕ → List ℕ) (m : List ℕ) (f g : ℕ) (xs ys now : List ℕ) (n : ℕ) : Type 0 where
  pub gives : g ∷ words (take n ys) ≡ S m (f ∷ words (take n xs))
  pub leaves : now ≡ T m (f ∷ words (take n xs))

pub one_word : (S T : List ℕ → List ℕ → List ℕ) → InParts S T → (m : List ℕ) (f g : ℕ) (xs ys now new : List ℕ) (n y : ℕ) → n < length xs → n < length ys →
    Passed S T m f g xs ys now n → field y 0 64 ≡ S now (field (get_or xs n 0) 0 64) → new ≡ T now (field (get_or xs n 0) 0 64) → Passed S T m f g xs (set ys n y) new (n + 1)
one_word S T laws m f g xs ys now new n y h k p e t =
    let more : f ∷ words (take (n + 1) xs) ≡ (f ∷ words (take n xs)) ++ field (get_or xs n 0) 0 64 = ap (λ (l : List ℕ). f ∷ l) (words_more xs n h) in
    record {
      gives =
          ap (λ (l : List ℕ). g ∷ l) (words_set ys n y k)
          ∙ ap₂ (λ (u v : List ℕ). u ++ v) p.gives (e ∙ ap (λ (w : List ℕ). S w (field (get_or xs n 0) 0 64)) p.leaves)
          ∙ sym (laws.gives m (f ∷ words (take n xs)) (field (get_or xs n 0) 0 64)) ∙ ap (S m) (sym more);
      leaves =
          t ∙ ap (λ (w : List ℕ). T w (field (get_or xs n 0) 0 64)) p.leaves
          ∙ sym (laws.leaves m (f ∷ words (take n xs)) (field (get_or xs n 0) 0 64)) ∙ ap (T m) (sym more);
    }
