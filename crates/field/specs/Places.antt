-- Places of a word, and points that differ from place to place.
use Rattle.std.specs.Prelude.{◌≡◌, ℕ, ◌<◌, ◌⊎◌, List, [], ◌∷◌}
use Rattle.field.specs.Laws.{Group}

-- i is one of ps
abbrev pub Among : ℕ → List ℕ → Type 0
Among i [] = ⊥
Among i (p ∷ ps) = (i ≡ p) ⊎ Among i ps

-- no place occurs twice in the list
abbrev pub Distinct : List ℕ → Type 0
Distinct [] = Unit {0}
Distinct (p ∷ ps) = (Among p ps → ⊥) × Distinct ps

-- each place in the list is below n
abbrev pub Below : ℕ → List ℕ → Type 0
Below n [] = Unit {0}
Below n (p ∷ ps) = (p < n) × Below n ps

-- the first n terms c, but for those at the places ps, are zero
abbrev pub Within : {F : Type 0} → Group F → ℕ → (ℕ → F) → List ℕ → Type 0
Within g n c ps = (i : ℕ) → i < n → (c i ≡ g.zero) ⊎ Among i ps

-- the first n points x differ
abbrev pub Apart : {F : Type 0} → ℕ → (ℕ → F) → Type 0
Apart n x = (i j : ℕ) → i < n → j < n → x i ≡ x j → i ≡ j
