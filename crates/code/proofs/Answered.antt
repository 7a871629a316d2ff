-- The answers of the engines, from what their parts found.
use Rattle.std.proofs.Common.{◌≡◌, ℕ, ◌≤◌, List, get_or, Ok, Err, Result, sym, refl, ◌∙◌, subst, arith, ext_get_or}
use Rattle.code.specs.Code.{WellFormed, Codeword, distance}
use Rattle.code.specs.declared.refusal.Refusal.{Refusal}
use Rattle.code.specs.Laws.{IsLowestLarge, Repaired, Corrected}
use Rattle.code.proofs.Counting.{count_none, none_counted}

pub not_formed : (w : List ℕ) (i : ℕ) → IsLowestLarge w i → WellFormed w → ⊥
not_formed w i low formed =
    let s = formed.size in
    let l = low.within in
    let a = low.large in
    let h = formed.symbols i (omega arith) in
    omega arith

-- a codeword stays
pub untouched : (reach : ℕ) (w : List ℕ) → Codeword w → Repaired reach w w 0
unfolding distance
untouched reach w code = record {
  formed = code.formed;
  codeword = code;
  changed = count_none 544 (λ i. get_or w i 0) (λ i. get_or w i 0) (λ i l. refl);
  within = omega arith;
}

-- words that differ in no symbol are equal
none_apart : (w v : List ℕ) → WellFormed w → WellFormed v → distance w v ≤ 0 → v ≡ w
unfolding distance
none_apart w v formed other near =
    ext_get_or 0 v w (other.size ∙ sym formed.size)
    (λ i l. sym (none_counted 544 (λ i. get_or w i 0) (λ i. get_or v i 0) (omega arith) i (let s = other.size in omega arith)))

-- with reach 0 no other word is near one
pub none-near : (w : List ℕ) → WellFormed w → (Codeword w → ⊥) → (c : List ℕ) → Codeword c → distance w c ≤ 0 → ⊥
none-near w formed other c code near = other (subst Codeword (none_apart w c formed code.formed near) code)

-- at reach 0 every word stays
pub watching_keeps : (w v : List ℕ) (r : Result ℕ Refusal) → Corrected 0 w v r → v ≡ w
watching_keeps w v (Ok n) h = none_apart w v h.formed h.codeword.formed (let d = h.changed in let l = h.within in omega arith)
watching_keeps w v (Err e) h = h.0
