-- Symbols as elements of the field, for the functions that work on those.
use Rattle.std.specs.Prelude.{◌≡◌, ℕ, ◌-◌, ◌<◌, ◌≤◌, List, slice_index, slice_index_or}
use Rattle.field.specs.Sums.{pow}
use Rattle.gf1024.specs.declared.element.Element.{Element}
use Rattle.gf1024.specs.Field.{group, ring, alpha, element}
use Rattle.code.specs.Code.{WellFormed, Codeword, distance}

-- the element at the place i
abbrev pub at : List Element → ℕ → Element
at es i = slice_index_or es i group.zero

-- the symbol at the place i of w as an element
abbrev pub symbol : List ℕ → ℕ → Element
symbol w i = element (slice_index w i)

-- the first n elements are the symbols of w
abbrev pub Loaded : List ℕ → ℕ → List Element → Type 0
Loaded w n es = (i : ℕ) → i < n → at es i ≡ element (slice_index w i)

-- the first n of the points alpha^543, .., alpha, 1 of the places
abbrev pub Points : ℕ → List Element → Type 0
Points n es = (i : ℕ) → i < n → at es i ≡ pow ring alpha (543 - i)

-- the first n of the powers of alpha
abbrev pub RootsOf : ℕ → List Element → Type 0
RootsOf n es = (k : ℕ) → k < n → at es k ≡ pow ring alpha k

-- the first n elements are the symbols of w at 29, 28 and so on
abbrev pub Falling : List ℕ → ℕ → List Element → Type 0
Falling w n es = (j : ℕ) → j < n → at es j ≡ symbol w (29 - j)

-- the first n symbols of w are the elements
abbrev pub Stored : List Element → ℕ → List ℕ → Type 0
Stored es n w = (i : ℕ) → i < n → slice_index w i ≡ (at es i).value

-- the word v is within fifteen of w, and no other that near can be a codeword
pub record ProposedWord (w v : List ℕ) : Type 0 where
  pub formed : WellFormed v
  pub near : distance w v ≤ 15
  pub only : (c : List ℕ) → Codeword c → distance w c ≤ 15 → c ≡ v
