-- Lemmas for a stage of the elimination.
use Rattle.std.proofs.Common.{◌≡◌, ◌≢◌, ℕ, ◌+◌, ◌-◌, ◌<◌, ◌≤◌, ◌⊎◌, Option, Some, None, MatchOption, List, length, get_or, set, replicate, sym, ap, ◌∙◌, subst, subst₂, inl, inr, eq-or-lt_of_le, arith, get_or-set_other, get_or-set_same}
use Rattle.std.specs.List.{AllWithin, HoldsAt}
use native.Mathlib.Decide.{dec_lt, ℕ_discrete}
use lib.ListN.{length-replicate, get_or-replicate, get_or-eq_default}
use Rattle.field.specs.Laws.{Group, Ring}
use Rattle.decoder.specs.declared.elimination.Row.{Row}
use Rattle.decoder.specs.Words.{applied, Monic, Annihilates}
use Rattle.decoder.specs.Elimination.{blank, row_at, Candidate, Stage}

pub set_cases : {F : Type 0} (P : Row F → Type 0) (rows : List (Row F)) (j : ℕ) (x : Row F) (t : ℕ) → j < length rows → (t ≡ j → P x) → ((t ≡ j → ⊥) → P (row_at rows t)) → P (row_at (set rows j x) t)
set_cases P rows j x t h same other = go (ℕ_discrete t j)
  where
    go : Dec (t ≡ j) → P (row_at (set rows j x) t)
    go (yes e) = subst P (sym (ap (row_at (set rows j x)) e ∙ get_or-set_same rows j x blank h)) (same e)
    go (no e) = subst P (sym (get_or-set_other rows j t x blank e)) (other e)

module _ {F : Type 0} (g : Group F) (r : Ring F) where
  pub annihilates_more : (v s : List F) (n k : ℕ) → Annihilates g r v s n k → applied g r v s k n ≡ g.zero → Annihilates g r v s n (k + 1)
  annihilates_more v s n k h e m l = go (eq-or-lt_of_le (let q : m ≤ k = omega arith in q))
    where
      go : (m ≡ k) ⊎ (m < k) → applied g r v s m n ≡ g.zero
      go (inl q) = ap (λ z. applied g r v s z n) q ∙ e
      go (inr q) = h m q

  -- the first row that does not annihilate the place k, or none
  pub first_row : (rows : List (Row F)) (s : List F) (k n : ℕ) (found : Option ℕ)
      → MatchOption found (AllWithin (λ x. applied g r x.coefficients s k n ≡ g.zero) rows 0 (length rows))
      (λ p. (p < length rows) × HoldsAt (λ x. applied g r x.coefficients s k n ≢ g.zero) rows p × AllWithin (λ x. applied g r x.coefficients s k n ≡ g.zero) rows 0 p)
      → MatchOption found ((i : ℕ) → i < length rows → applied g r (row_at rows i).coefficients s k n ≡ g.zero)
      (λ p. (p < length rows) × (applied g r (row_at rows p).coefficients s k n ≢ g.zero) × ((i : ℕ) → i < p → applied g r (row_at rows i).coefficients s k n ≡ g.zero))
  first_row rows s k n None h = λ i l. h i blank (omega arith) l
  first_row rows s k n (Some p) h = (h.0, h.1 blank, λ i l. h.2 i blank (omega arith) l)

  -- where each row annihilates the place k, any of them may go
  pub idle_stage : (rows : List (Row F)) (m k n : ℕ) (s : List F) → Stage g r rows m s n k → ((i : ℕ) → i < m → applied g r (row_at rows i).coefficients s k n ≡ g.zero) → Stage g r rows (m - 1) s n (k + 1)
  idle_stage rows m k n s st all = record {
    candidate = λ t h. (let o = st.candidate t (omega arith) in record { small = o.small; monic = o.monic; annihilates = annihilates_more (row_at rows t).coefficients s n k o.annihilates (all t (omega arith)) });
    ascend = λ i j h q. st.ascend i j h (omega arith);
  }

  pub next_stage : (old rows : List (Row F)) (m p k n : ℕ) (s : List F) → p < m → Stage g r old m s n k
      → ((i : ℕ) → i < p → applied g r (row_at old i).coefficients s k n ≡ g.zero)
      → ((t : ℕ) → t < p → row_at rows t ≡ row_at old t)
      → ((t : ℕ) → p ≤ t → t + 1 < m → Candidate g r s n (k + 1) (row_at rows t))
      → ((t : ℕ) → p ≤ t → t + 1 < m → (row_at rows t).degree ≡ (row_at old (t + 1)).degree)
      → Stage g r rows (m - 1) s n (k + 1)
  next_stage old rows m p k n s pm st before low made degs = record {
    candidate = λ t h. candidate_at t h (dec_lt t p);
    ascend = λ i j h q. ascend_at i j h q (dec_lt i p) (dec_lt j p);
  }
    where
      candidate_at : (t : ℕ) → t < m - 1 → Dec (t < p) → Candidate g r s n (k + 1) (row_at rows t)
      candidate_at t h (yes q) =
          let o = st.candidate t (omega arith) in
          subst (Candidate g r s n (k + 1)) (sym (low t q)) (record { small = o.small; monic = o.monic; annihilates = annihilates_more (row_at old t).coefficients s n k o.annihilates (before t q) })
      candidate_at t h (no q) = made t (omega arith) (omega arith)

      ascend_at : (i j : ℕ) → i < j → j < m - 1 → Dec (i < p) → Dec (j < p) → (row_at rows i).degree < (row_at rows j).degree
      ascend_at i j h q (yes a) (yes b) = rw (low i a, low j b) (st.ascend i j h (omega arith))
      ascend_at i j h q (yes a) (no b) = rw (low i a, degs j (omega arith) (omega arith)) (st.ascend i (j + 1) (omega arith) (omega arith))
      ascend_at i j h q (no a) (yes b) = absurd (omega arith)
      ascend_at i j h q (no a) (no b) = rw (degs i (omega arith) (omega arith), degs j (omega arith) (omega arith)) (st.ascend (i + 1) (j + 1) (omega arith) (omega arith))

  pub power_monic : (z u : F) (i : ℕ) → i < 16 → z ≡ g.zero → u ≡ r.one → Monic g r i (set (replicate 16 z) i u)
  power_monic z u i h ez eu = (get_or-set_same (replicate 16 z) i u g.zero (rw length-replicate h) ∙ eu, λ j l. get_or-set_other (replicate 16 z) i j u g.zero (λ e. (omega arith)) ∙ go j (dec_lt j 16))
    where
      go : (j : ℕ) → Dec (j < 16) → get_or (replicate 16 z) j g.zero ≡ g.zero
      go j (yes q) = get_or-replicate 16 j z g.zero q ∙ ez
      go j (no q) = get_or-eq_default (replicate 16 z) g.zero {n = j} (rw length-replicate (let k : 16 ≤ j = omega arith in k))

  -- the row found among n rows, where n is the reach and one
  pub row_at_reach : (s : List F) (n reach : ℕ) (row : Row F) → n ≡ reach + 1 → Candidate g r s n (n - 1) row → Candidate g r s (reach + 1) reach row
  row_at_reach s n reach row e is = subst₂ (λ a b. Candidate g r s a b row) e (let q : n - 1 ≡ reach = omega arith in q) is
