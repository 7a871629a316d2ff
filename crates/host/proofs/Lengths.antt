-- Calls on words that are refused for their lengths.
use Rattle.std.proofs.Common.{◌≡◌, ℕ, ◌⊎◌, eqb, List, length, Err, inl, inr, refl, ◌∙◌, arith}
use Rattle.std.proofs.lemmas.Bool.{cases_Bool, cond-true, cond-false, eqb-true}
use Rattle.code.specs.Answers.{correction, encoding}
use Rattle.code.specs.declared.refusal.Refusal.TheVariants.{Length}
use Rattle.code.proofs.Refusals.{refused-length}
use Rattle.host.specs.Crossing.{symbols_in}
use Rattle.host.proofs.Octets.{length_from-symbols_in}

not_a_word : (xs : List ℕ) → (length xs ≡ 1088 → ⊥) → length (symbols_in xs) ≡ 544 → ⊥
not_a_word xs h e = h (length_from-symbols_in xs 544 (omega arith) e)

pub correction-length : (reach : ℕ) (xs : List ℕ) → (length xs ≡ 1088 → ⊥) → correction reach (symbols_in xs) ≡ Err Length
unfolding correction
correction-length reach xs h = rw (refused-length 544 (symbols_in xs) (not_a_word xs h)) refl

pub encoding-length : (message word : List ℕ) → ((length message ≡ 1028 → ⊥) ⊎ ((length message ≡ 1028) × (length word ≡ 1088 → ⊥))) →
    encoding (symbols_in message) (symbols_in word) ≡ Err Length
unfolding encoding
encoding-length message word h = elim (cases_Bool (eqb (length (symbols_in word)) 544)) [
  | inl e ↦ cond-true _ _ _ e ∙ rw (refused-length 514 (symbols_in message) (short h (eqb-true _ _ e))) refl
  | inr e ↦ cond-false _ _ _ e
]
  where
    short : ((length message ≡ 1028 → ⊥) ⊎ ((length message ≡ 1028) × (length word ≡ 1088 → ⊥))) → length (symbols_in word) ≡ 544 → length (symbols_in message) ≡ 514 → ⊥
    short (inl m) e s = m (length_from-symbols_in message 514 (omega arith) s)
    short (inr w) e s = absurd (not_a_word word w.1 e)

-- what stands in a word of the right length does not matter
pub encoding-word : (m v w : List ℕ) → length v ≡ 544 → length w ≡ 544 → encoding m v ≡ encoding m w
unfolding encoding
encoding-word m v w p q = rw (p, q) refl
