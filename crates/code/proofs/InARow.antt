-- Refusals in a row.
use Rattle.std.proofs.Common.{◌≡◌, ℕ, zero, suc, ◌+◌, ◌<◌, ◌≤◌, ◌⊎◌, min, Result, Ok, Err, IsErr, refl, subst, inl, inr, le_of_suc-le-suc, eq-or-lt_of_le, eqb, arith}
use Rattle.std.proofs.lemmas.Bool.{cases_Bool, cond-true, cond-false, eq-eqb, eqb-true}
use Rattle.code.specs.declared.refusal.Refusal.{Refusal}
use Rattle.code.specs.Faults.{run_after, run_behind, run_checked, three_refusals, RunFaults}

-- the last j of the first n answers were refusals
abbrev Last : (ℕ → Result ℕ Refusal) → ℕ → ℕ → Type 0
Last answers n j = (j ≤ n) × ((i : ℕ) → i < n → n ≤ i + j → IsErr (answers i))

-- at least j refusals in a row, j at most 3
counted : (answers : ℕ → Result ℕ Refusal) (n j : ℕ) → j ≤ 3 → j ≤ run_behind answers n → Last answers n j
counted answers zero j l h = (h, λ i k m. absurd (omega arith))
counted answers (suc n) zero l h = (omega arith, λ i k m. absurd (omega arith))
counted answers (suc n) (suc j) l h = go (answers n) refl (λ k. counted answers n j (omega arith) k) h
  where
    go : (r : Result ℕ Refusal) → answers n ≡ r → (j ≤ run_behind answers n → Last answers n j) → suc j ≤ run_after (run_behind answers n) (answers n) → Last answers (suc n) (suc j)
    go (Ok m) e ih k = let z : suc j ≤ 0 = subst (λ r. suc j ≤ run_after (run_behind answers n) r) e k in absurd (omega arith)
    go (Err x) e ih k =
        let z : suc j ≤ min (run_behind answers n + 1) 3 = subst (λ r. suc j ≤ run_after (run_behind answers n) r) e k in
        let t : Last answers n j = ih (omega arith) in
        (omega arith, λ i q m. each t i (eq-or-lt_of_le (le_of_suc-le-suc q)) m)
      where
        each : Last answers n j → (i : ℕ) → (i ≡ n) ⊎ (i < n) → suc n ≤ i + suc j → IsErr (answers i)
        each t i (inl q) m = rw (q, e) refl
        each t i (inr q) m = t.1 i q (omega arith)

counts : (answers : ℕ → Result ℕ Refusal) (n j : ℕ) → j ≤ 3 → Last answers n j → j ≤ run_behind answers n
counts answers zero j l h = h.0
counts answers (suc n) zero l h = omega arith
counts answers (suc n) (suc j) l h = go (answers n) refl (counts answers n j (omega arith) (omega arith, λ i q m. h.1 i (omega arith) (omega arith))) (h.1 n (omega arith) (omega arith))
  where
    go : (r : Result ℕ Refusal) → answers n ≡ r → j ≤ run_behind answers n → IsErr (answers n) → suc j ≤ run_after (run_behind answers n) (answers n)
    go (Ok m) e k is = cc
    go (Err x) e k is = rw e (omega arith)

three_at_most : (answers : ℕ → Result ℕ Refusal) (n : ℕ) → run_behind answers n ≤ 3
three_at_most answers zero = omega arith
three_at_most answers (suc n) = go (answers n)
  where
    go : (r : Result ℕ Refusal) → run_after (run_behind answers n) r ≤ 3
    go (Ok m) = omega arith
    go (Err x) = omega arith

-- the check tells a run of three
three : (run position ticks : ℕ) → run_checked run position ticks ≡ Err (three_refusals position ticks) → run ≡ 3
three run position ticks e = elim (cases_Bool (eqb run 3)) [
  | inl t ↦ eqb-true run 3 t
  | inr f ↦ let ok : run_checked run position ticks ≡ Ok tt = cond-false (eqb run 3) _ _ f in cc
]

pub run_faults : RunFaults
run_faults answers n position ticks = (
  λ e. let t = three (run_behind answers n) position ticks e in counted answers n 3 (omega arith) (omega arith),
  λ h. let l = counts answers n 3 (omega arith) h in let m = three_at_most answers n in cond-true _ _ _ (eq-eqb (run_behind answers n) 3 (omega arith)),
)
