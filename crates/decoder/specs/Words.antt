-- Words of symbols and their syndromes, and rows: polynomials with the lowest coefficient first.
use Rattle.std.specs.Prelude.{◌≡◌, ℕ, ◌+◌, ◌-◌, ◌<◌, List, get_or, slice_index_or}
use Rattle.field.specs.Laws.{Group, Ring}
use Rattle.field.specs.Sums.{sum, syndrome, polynomial, word_value}

-- the syndrome k of the first n symbols of the word w at the points xs
abbrev pub word_syndrome : {F : Type 0} → Group F → Ring F → List F → List F → ℕ → ℕ → F
word_syndrome g r w xs k n = syndrome g r n (λ i. get_or xs i g.zero) (λ i. get_or w i g.zero) k

-- s holds syndromes of w
abbrev pub Syndromes : {F : Type 0} → Group F → Ring F → List F → List F → ℕ → ℕ → List F → Type 0
Syndromes g r w xs n m s = (k : ℕ) → k < m → slice_index_or s k g.zero ≡ word_syndrome g r w xs k n

-- the value at x of the first d coefficients of the row v
abbrev pub row_value : {F : Type 0} → Group F → Ring F → ℕ → List F → F → F
row_value g r d v x = polynomial g r d (λ j. get_or v j g.zero) x

-- each of the first n values times its point, and c
abbrev pub Stepped : {F : Type 0} → Group F → Ring F → List F → List F → F → ℕ → List F → Type 0
Stepped g r old xs c n new = (i : ℕ) → i < n → slice_index_or new i g.zero ≡ g.plus (r.times (slice_index_or old i g.zero) (slice_index_or xs i g.zero)) c

-- the first d coefficients of the row v, the highest first
abbrev pub falling : {F : Type 0} → Group F → List F → ℕ → ℕ → F
falling g v d t = slice_index_or v (d - 1 - t) g.zero

-- the values at the first m of the points xs of the first n coefficients c, the highest first
abbrev pub Values : {F : Type 0} → Group F → Ring F → (ℕ → F) → ℕ → List F → ℕ → List F → Type 0
Values g r c n xs m ys = (i : ℕ) → i < m → slice_index_or ys i g.zero ≡ word_value g r n c (slice_index_or xs i g.zero)

-- the first n coefficients of v times the syndromes s from k on
abbrev pub applied : {F : Type 0} → Group F → Ring F → List F → List F → ℕ → ℕ → F
applied g r v s k n = sum g n (λ j. r.times (slice_index_or v j g.zero) (slice_index_or s (k + j) g.zero))

-- v applied at each place below k is zero
abbrev pub Annihilates : {F : Type 0} → Group F → Ring F → List F → List F → ℕ → ℕ → Type 0
Annihilates g r v s n k = (m : ℕ) → m < k → applied g r v s m n ≡ g.zero

-- w is v and q times p, in the first n coefficients
abbrev pub Added : {F : Type 0} → Group F → Ring F → List F → List F → F → List F → ℕ → Type 0
Added g r v p q w n = (j : ℕ) → j < n → slice_index_or w j g.zero ≡ g.plus (slice_index_or v j g.zero) (r.times q (slice_index_or p j g.zero))

-- v has the degree d, and there the coefficient one
abbrev pub Monic : {F : Type 0} → Group F → Ring F → ℕ → List F → Type 0
Monic g r d v = (slice_index_or v d g.zero ≡ r.one) × ((j : ℕ) → d < j → slice_index_or v j g.zero ≡ g.zero)
