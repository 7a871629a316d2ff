-- The rows of the elimination that finds a locator.
use Rattle.std.specs.Prelude.{◌≡◌, ℕ, ◌<◌, List, [], slice_index_or}
use Rattle.field.specs.Laws.{Group, Ring}
use Rattle.decoder.specs.declared.elimination.Row.{Row}
use Rattle.decoder.specs.declared.window.Window.{Window}
use Rattle.decoder.specs.Words.{applied, Monic, Annihilates}

abbrev pub blank : {F : Type 0} → Row F
blank = record { degree = 0; coefficients = [] }

abbrev pub row_at : {F : Type 0} → List (Row F) → ℕ → Row F
row_at rows i = slice_index_or rows i blank

-- the row v applied to the syndromes of a window
abbrev pub applied_to : {F : Type 0} → Group F → Ring F → List F → Window F → F
applied_to g r v w = applied g r v w.s.now w.k w.n

-- monic of its degree, and it annihilates the syndromes s below k
pub record Candidate {F : Type 0} (g : Group F) (r : Ring F) (s : List F) (n k : ℕ) (x : Row F) : Type 0 where
  pub small : x.degree < n
  pub monic : Monic g r x.degree x.coefficients
  pub annihilates : Annihilates g r x.coefficients s n k

-- the first n rows are the powers of x
abbrev pub Powers : {F : Type 0} → Group F → Ring F → List (Row F) → ℕ → Type 0
Powers g r rows n = (t : ℕ) → t < n → ((row_at rows t).degree ≡ t) × Monic g r t (row_at rows t).coefficients

-- the first m rows are candidates at k, and their degrees ascend
pub record Stage {F : Type 0} (g : Group F) (r : Ring F) (rows : List (Row F)) (m : ℕ) (s : List F) (n k : ℕ) : Type 0 where
  pub candidate : (i : ℕ) → i < m → Candidate g r s n k (row_at rows i)
  pub ascend : (i j : ℕ) → i < j → j < m → (row_at rows i).degree < (row_at rows j).degree
