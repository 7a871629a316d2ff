-- Rows applied to syndromes, and what a reduced row keeps.
use Rattle.std.proofs.Common.{◌≡◌, ℕ, ◌+◌, ◌<◌, ◌≤◌, ◌⊎◌, List, length, get_or, ap, ◌∙◌, ap₂, inl, inr, eq-or-lt_of_le, add-one, arith}
use native.Mathlib.Decide.{dec_lt}
use lib.ListN.{get_or-eq_default}
use Rattle.field.specs.Laws.{Group, Ring, FieldLaws}
use Rattle.field.proofs.Algebra.{spread_right, times_zero, add_zero, cleared}
use Rattle.field.proofs.Sums.{sum_same, sum-times, sum_plus}
use Rattle.decoder.specs.Words.{applied, Added, Monic, Annihilates}

module _ {F : Type 0} (g : Group F) (r : Ring F) (laws : FieldLaws g r) where
  infixl 60 ◌⊕◌
  infixl 70 ◌⊗◌
  open g use {zero as 𝟎, plus as ◌⊕◌, minus}
  open r use {one as 𝟏, times as ◌⊗◌}

  pub applied_next : (v s : List F) (k n : ℕ) → applied g r v s k n ⊕ get_or v n 𝟎 ⊗ get_or s (k + n) 𝟎 ≡ applied g r v s k (n + 1)
  applied_next v s k n = rw add-one

  -- what a row and q times another make of the syndromes
  pub applied_added : (v p : List F) (q : F) (w s : List F) (m n k : ℕ) → Added g r v p q w m → n ≤ m → applied g r w s k n ≡ applied g r v s k n ⊕ q ⊗ applied g r p s k n
  applied_added v p q w s m n k h l =
      sum_same g n (λ j. get_or w j 𝟎 ⊗ get_or s (k + j) 𝟎)
      (λ j. get_or v j 𝟎 ⊗ get_or s (k + j) 𝟎 ⊕ q ⊗ (get_or p j 𝟎 ⊗ get_or s (k + j) 𝟎)) each
      ∙ sum_plus g r laws n (λ j. get_or v j 𝟎 ⊗ get_or s (k + j) 𝟎) (λ j. q ⊗ (get_or p j 𝟎 ⊗ get_or s (k + j) 𝟎))
      ∙ ap (λ z. applied g r v s k n ⊕ z) (sum-times g r laws n q (λ j. get_or p j 𝟎 ⊗ get_or s (k + j) 𝟎))
    where
      each : (j : ℕ) → j < n → get_or w j 𝟎 ⊗ get_or s (k + j) 𝟎 ≡ get_or v j 𝟎 ⊗ get_or s (k + j) 𝟎 ⊕ q ⊗ (get_or p j 𝟎 ⊗ get_or s (k + j) 𝟎)
      each j i =
          ap (λ z. z ⊗ get_or s (k + j) 𝟎) (h j (omega arith)) ∙ spread_right g r laws (get_or v j 𝟎) (q ⊗ get_or p j 𝟎) (get_or s (k + j) 𝟎)
          ∙ ap (λ z. get_or v j 𝟎 ⊗ get_or s (k + j) 𝟎 ⊕ z) (laws.assoc q (get_or p j 𝟎) (get_or s (k + j) 𝟎))

  pub reduced_monic : (dv dp : ℕ) (v p : List F) (q : F) (w : List F) → length w ≡ 16 → dp < dv → dv < 16 → Monic g r dv v → Monic g r dp p → Added g r v p q w 16 → Monic g r dv w
  reduced_monic dv dp v p q w size lt small hv hp h = (at_top, λ j l. above j l (dec_lt j 16))
    where
      gone : (x : F) → x ⊕ q ⊗ 𝟎 ≡ x
      gone x = ap (λ z. x ⊕ z) (times_zero g r laws q) ∙ add_zero g r laws x

      at_top : get_or w dv 𝟎 ≡ 𝟏
      at_top = h dv small ∙ ap₂ (λ a b. a ⊕ q ⊗ b) hv.0 (hp.1 dv lt) ∙ gone 𝟏

      above : (j : ℕ) → dv < j → Dec (j < 16) → get_or w j 𝟎 ≡ 𝟎
      above j l (yes k) = h j k ∙ ap₂ (λ a b. a ⊕ q ⊗ b) (hv.1 j l) (hp.1 j (omega arith)) ∙ gone 𝟎
      above j l (no k) = get_or-eq_default w 𝟎 (omega arith)

  pub reduced_annihilates : (v p : List F) (q : F) (w s : List F) (n k : ℕ) (i : F) → n ≤ 16 → Added g r v p q w 16 → Annihilates g r v s n k → Annihilates g r p s n k → q ≡ minus (applied g r v s k n ⊗ i) → applied g r p s k n ⊗ i ≡ 𝟏 → Annihilates g r w s n (k + 1)
  reduced_annihilates v p q w s n k i small h hv hp is inv m l = go (eq-or-lt_of_le (let e : m ≤ k = omega arith in e))
    where
      go : (m ≡ k) ⊎ (m < k) → applied g r w s m n ≡ 𝟎
      go (inl e) =
          ap (λ z. applied g r w s z n) e ∙ applied_added v p q w s 16 n k h small ∙ ap (λ z. applied g r v s k n ⊕ z ⊗ applied g r p s k n) is
          ∙ cleared g r laws (applied g r v s k n) (applied g r p s k n) i inv
      go (inr e) =
          applied_added v p q w s 16 n m h small ∙ ap₂ (λ a b. a ⊕ q ⊗ b) (hv m e) (hp m e) ∙ ap (λ z. 𝟎 ⊕ z) (times_zero g r laws q) ∙ add_zero g r laws 𝟎
