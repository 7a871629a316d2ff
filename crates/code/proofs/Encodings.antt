-- What encoding answers and leaves.
use Rattle.std.proofs.Common.{◌≡◌, ℕ, ◌<◌, true, false, eqb, ◌⊎◌, List, length, get_or, Some, None, Ok, Err, Option, Result, sym, refl, ap, ◌∙◌, subst, inl, inr}
use Rattle.std.specs.Result.{result_map_both, result_unwrap_or}
use Rattle.std.proofs.lemmas.Bool.{cases_Bool, both_ways, cond-true, cond-false, eq-eqb, ne_eqb, eqb-true}
use Rattle.code.specs.declared.refusal.Refusal.{Refusal}
use Rattle.code.specs.declared.refusal.Refusal.TheVariants.{Length, Symbol, Reach}
use Rattle.code.specs.Code.{codeword_of}
use Rattle.code.specs.Answers.{refusal_of, unless, encoding, encode_answer, encoded_word}
use Rattle.code.specs.Laws.{Malformed, EncodeRefused, Encodes, EncodeLaws}
use Rattle.code.proofs.Existing.{each_encodes}
use Rattle.code.proofs.Refusals.{refused_some, refused_none, refused-malformed, accepted}

-- a word of another length
pub encoding-size : (m w : List ℕ) → (length w ≡ 544 → ⊥) → encoding m w ≡ Err Length
unfolding encoding
encoding-size m w h = cond-false (eqb (length w) 544) _ _ (ne_eqb (length w) 544 h)

-- else the message decides
pub encoding_so : (m w : List ℕ) → length w ≡ 544 → encoding m w ≡ unless (refusal_of 514 m) (Ok (codeword_of m))
unfolding encoding
encoding_so m w e = cond-true (eqb (length w) 544) _ _ (eq-eqb (length w) 544 e)

-- a message of 514 symbols of ten bits
pub encoding-message : (m w : List ℕ) → length w ≡ 544 → length m ≡ 514 → ((i : ℕ) → i < 514 → get_or m i 0 < 1024) → encoding m w ≡ Ok (codeword_of m)
encoding-message m w e size small = encoding_so m w e ∙ ap (λ o. unless o (Ok (codeword_of m))) (accepted 514 m size small)

-- and none
pub encoding-malformed : (m w : List ℕ) (e : Refusal) → length w ≡ 544 → Malformed 514 m e → encoding m w ≡ Err e
encoding-malformed m w e size h = encoding_so m w size ∙ ap (λ o. unless o (Ok (codeword_of m))) (refused-malformed 514 m e h)

-- what an encoding answers and leaves is what it is to be
abbrev Outcome : List ℕ → List ℕ → Result (List ℕ) Refusal → Type 0
Outcome m w c = Encodes m w (result_unwrap_or c w) (result_map_both (λ c. tt) (λ e. e) c)

pub encode_laws : EncodeLaws
encode_laws = record { encodes = λ m w. split m w (cases_Bool (eqb (length w) 544)); each = each_encodes }
  where
    why : (m w : List ℕ) (e : Refusal) → length w ≡ 544 → Malformed 514 m e → EncodeRefused m w e
    why m w Length s h = λ p. h p.0
    why m w (Symbol i) s h = (h.0, s, h.1)
    why m w Reach s h = h

    outcome : (m w : List ℕ) → length w ≡ 544 → (o : Option Refusal) → refusal_of 514 m ≡ o → Outcome m w (unless o (Ok (codeword_of m)))
    outcome m w s (Some e) p = (refl, why m w e s (refused_some 514 m e p))
    outcome m w s None p = let t = refused_none 514 m p in each_encodes m t.0 t.1

    split : (m w : List ℕ) → (eqb (length w) 544 ≡ true) ⊎ (eqb (length w) 544 ≡ false) → Encodes m w (encoded_word m w) (encode_answer m w)
    split m w (inl t) = let s = eqb-true (length w) 544 t in subst (Outcome m w) (sym (encoding_so m w s)) (outcome m w s (refusal_of 514 m) refl)
    split m w (inr f) =
        let other : length w ≡ 544 → ⊥ = λ s. both_ways _ f (eq-eqb (length w) 544 s) in
        subst (Outcome m w) (sym (encoding-size m w other)) (refl, λ p. other p.1)

-- an outcome of encoding, as its contract says it
pub record Encoding (m w v : List ℕ) (r : Result (Unit {0}) Refusal) : Type 0 where
  pub answer : r ≡ encode_answer m w
  pub word : v ≡ encoded_word m w

pub encoding_is : (m w v : List ℕ) (r : Result (Unit {0}) Refusal) (c : Result (List ℕ) Refusal) → encoding m w ≡ c → v ≡ result_unwrap_or c w → r ≡ result_map_both (λ c. tt) (λ e. e) c → Encoding m w v r
encoding_is m w v r c e a b = record { answer = b ∙ ap (λ c. result_map_both (λ c. tt) (λ e. e) c) (sym e); word = a ∙ ap (λ c. result_unwrap_or c w) (sym e) }
