-- Error places as roots of the locator, and error values from the syndromes.
use Rattle.std.specs.Prelude.{◌≡◌, ℕ, zero, suc, ◌+◌, ◌<◌, ◌≤◌, if◌then◌else◌, List, get_or, ◌==◌, ◌≢◌, slice_index, slice_index_or}
use Rattle.field.specs.Laws.{Group, Ring}
use Rattle.decoder.specs.Words.{row_value}

-- found lists, ascending, the places below n at whose points the row v has a root
pub record Found {F : Type 0} (g : Group F) (r : Ring F) (v : List F) (d : ℕ) (xs : List F) (n : ℕ) (found : List ℕ) (count : ℕ) : Type 0 where
  pub small : count ≤ n
  pub within : (t : ℕ) → t < count → slice_index found t < n
  pub ascend : (t u : ℕ) → t < u → u < count → slice_index found t < slice_index found u
  pub root : (t : ℕ) → t < count → row_value g r d v (slice_index_or xs (slice_index found t) g.zero) ≡ g.zero
  pub all : (i : ℕ) → i < n → row_value g r d v (slice_index_or xs i g.zero) ≡ g.zero → (t : ℕ) × (t < count) × (slice_index found t ≡ i)

-- the syndromes s without the term at the point x
abbrev pub without_term : {F : Type 0} → Group F → Ring F → F → (ℕ → F) → ℕ → F
without_term g r x s k = g.plus (s (k + 1)) (r.times (g.minus x) (s k))

-- the syndromes without the terms at the first l of xs, but for that at j
abbrev pub without_terms : {F : Type 0} → Group F → Ring F → List F → (ℕ → F) → ℕ → ℕ → ℕ → F
without_terms g r xs s j zero = s
without_terms g r xs s j (suc l) = if l == j then without_terms g r xs s j l else without_term g r (slice_index_or xs l g.zero) (without_terms g r xs s j l)

-- the product of the differences of the point at j and each of the first l of xs but for itself
abbrev pub gaps : {F : Type 0} → Group F → Ring F → List F → ℕ → ℕ → F
gaps g r xs j zero = r.one
gaps g r xs j (suc l) = if l == j then gaps g r xs j l else r.times (gaps g r xs j l) (g.plus (slice_index_or xs j g.zero) (g.minus (slice_index_or xs l g.zero)))

-- the error at the point j of the m points xs
abbrev pub error_value : {F : Type 0} → Group F → Ring F → List F → (ℕ → F) → ℕ → ℕ → F
error_value g r xs s m j = r.times (without_terms g r xs s j m 0) (r.over (gaps g r xs j m))

-- out is old less the error values at the first j of the m places found
pub record Subtracted {F : Type 0} (g : Group F) (r : Ring F) (old : List F) (found : List ℕ) (xs s : List F) (m j : ℕ) (out : List F) : Type 0 where
  pub done : (t : ℕ) → t < j → slice_index_or out (slice_index found t) g.zero ≡ g.plus (slice_index_or old (slice_index found t) g.zero) (g.minus (error_value g r xs (λ k. get_or s k g.zero) m t))
  pub todo : (t : ℕ) → j ≤ t → t < m → slice_index_or out (slice_index found t) g.zero ≡ slice_index_or old (slice_index found t) g.zero
  pub rest : (i : ℕ) → ((t : ℕ) → t < m → slice_index found t ≢ i) → slice_index_or out i g.zero ≡ slice_index_or old i g.zero
