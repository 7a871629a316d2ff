-- What is proposed for a word: the one word near it that can be a codeword, or none.
use Rattle.std.specs.Prelude.{◌≡◌, ℕ, ◌*◌, ◌<◌, ◌≤◌, ◌⊎◌, List, length, slice_index_or}
use Rattle.field.specs.Laws.{Group, Ring}
use Rattle.field.specs.Places.{Among}
use Rattle.decoder.specs.Words.{word_syndrome}

-- the first m syndromes of the word c of n symbols at the points xs are zero
abbrev pub IsClean : {F : Type 0} → Group F → Ring F → List F → ℕ → ℕ → List F → Type 0
IsClean g r xs n m c = (k : ℕ) → k < m → word_syndrome g r c xs k n ≡ g.zero

-- the words w and c of n symbols differ in at most reach places
abbrev pub Near : {F : Type 0} → Group F → ℕ → ℕ → List F → List F → Type 0
Near g n reach w c = (qs : List ℕ) × (length qs ≤ reach) × ((i : ℕ) → i < n → (slice_index_or w i g.zero ≡ slice_index_or c i g.zero) ⊎ Among i qs)

-- out is near w, and there is no other word near w that can be a codeword
pub record Proposal {F : Type 0} (g : Group F) (r : Ring F) (xs : List F) (n reach : ℕ) (w out : List F) : Type 0 where
  pub size : length out ≡ n
  pub near : Near g n reach w out
  pub only : (c : List F) → IsClean g r xs n (2 * reach) c → Near g n reach w c → (i : ℕ) → i < n → slice_index_or out i g.zero ≡ slice_index_or c i g.zero

-- no word near w is a codeword
abbrev pub NoneNear : {F : Type 0} → Group F → Ring F → List F → ℕ → ℕ → List F → Type 0
NoneNear {F = F} g r xs n reach w = (c : List F) → IsClean g r xs n (2 * reach) c → Near g n reach w c → ⊥
