-- Why a word or a message is refused before anything else is asked of it.
use Rattle.std.proofs.Common.{◌≡◌, ℕ, ◌<◌, Bool, true, false, eqb, ltb, ◌⊎◌, List, length, get_or, Some, None, Option, sym, refl, ap, ◌∙◌, subst, inl, inr, arith}
use Rattle.std.specs.Option.{option_map}
use Rattle.std.proofs.lemmas.Bool.{cases_Bool, both_ways, cond-true, cond-false, eq-eqb, ne_eqb, eqb-true, ltb-true, ltb-false, le-ltb, lt-ltb}
use Rattle.bits.specs.Lowest.{lowest}
use Rattle.bits.proofs.Lowest.{none_below, lowest_none, lowest-found}
use Rattle.code.specs.declared.refusal.Refusal.{Refusal}
use Rattle.code.specs.declared.refusal.Refusal.TheVariants.{Length, Symbol, Reach}
use Rattle.code.specs.Answers.{refusal_of}
use Rattle.code.specs.Laws.{IsLowestLarge, Malformed}
use Rattle.code.proofs.Lists.{lowest_some}

abbrev large : List ℕ → ℕ → Bool
large w i = ltb 1023 (get_or w i 0)

-- a wrong length
pub refused-length : (n : ℕ) (w : List ℕ) → (length w ≡ n → ⊥) → refusal_of n w ≡ Some Length
unfolding refusal_of
refused-length n w h = cond-false (eqb (length w) n) _ _ (ne_eqb (length w) n h)

-- the right length: the symbols decide
pub refused_so : (n : ℕ) (w : List ℕ) → length w ≡ n → refusal_of n w ≡ option_map Symbol (lowest (large w) n)
unfolding refusal_of
refused_so n w e = cond-true (eqb (length w) n) _ _ (eq-eqb (length w) n e)

pub refused_some : (n : ℕ) (w : List ℕ) (e : Refusal) → refusal_of n w ≡ Some e → Malformed n w e
refused_some n w e h = split (cases_Bool (eqb (length w) n))
  where
    found : length w ≡ n → (o : Option ℕ) → lowest (large w) n ≡ o → option_map Symbol o ≡ Some e → Malformed n w e
    found s None p q = absurd (cc)
    found s (Some i) p q =
        let t = lowest_some (large w) n i p in
        let is : Symbol i ≡ e = cc in
        subst (Malformed n w) is (
          s,
          record {
            within = omega (arith, t.0);
            large = ltb-true 1023 (get_or w i 0) t.1;
            before = λ k l. (let z = ltb-false 1023 (get_or w k 0) (t.2 k l) in omega arith);
          },
        )

    split : (eqb (length w) n ≡ true) ⊎ (eqb (length w) n ≡ false) → Malformed n w e
    split (inl t) = let s = eqb-true (length w) n t in found s (lowest (large w) n) refl (sym (refused_so n w s) ∙ h)
    split (inr f) =
        let other : length w ≡ n → ⊥ = λ s. both_ways _ f (eq-eqb (length w) n s) in
        let is : Length ≡ e = (let z = refused-length n w other in cc) in
        subst (Malformed n w) is other

pub refused_none : (n : ℕ) (w : List ℕ) → refusal_of n w ≡ None → (length w ≡ n) × ((i : ℕ) → i < n → get_or w i 0 < 1024)
refused_none n w h = split (cases_Bool (eqb (length w) n))
  where
    fine : (o : Option ℕ) → lowest (large w) n ≡ o → option_map Symbol o ≡ None → (i : ℕ) → i < n → get_or w i 0 < 1024
    fine None p q i l = let z = ltb-false 1023 (get_or w i 0) (none_below (large w) n p i l) in omega arith
    fine (Some k) p q i l = absurd (cc)

    split : (eqb (length w) n ≡ true) ⊎ (eqb (length w) n ≡ false) → (length w ≡ n) × ((i : ℕ) → i < n → get_or w i 0 < 1024)
    split (inl t) = let s = eqb-true (length w) n t in (s, fine (lowest (large w) n) refl (sym (refused_so n w s) ∙ h))
    split (inr f) = absurd (let z = refused-length n w (λ s. both_ways _ f (eq-eqb (length w) n s)) in cc)

-- the lowest symbol above 1,023 is named
pub refused-symbol : (n : ℕ) (w : List ℕ) (i : ℕ) → length w ≡ n → IsLowestLarge w i → refusal_of n w ≡ Some (Symbol i)
refused-symbol n w i e low =
    refused_so n w e
    ∙ ap (option_map Symbol)
    (lowest-found (large w) i n (let l = low.within in omega arith) (lowest_none (large w) i (λ k l. le-ltb 1023 (get_or w k 0) (let s = low.before k l in omega arith)))
    (lt-ltb 1023 (get_or w i 0) (let l = low.large in omega arith)))

-- what is not n symbols of ten bits is refused for that
pub refused-malformed : (n : ℕ) (w : List ℕ) (e : Refusal) → Malformed n w e → refusal_of n w ≡ Some e
refused-malformed n w Length h = refused-length n w h
refused-malformed n w (Symbol i) h = refused-symbol n w i h.0 h.1
refused-malformed n w Reach h = absurd h

-- n symbols of ten bits are not refused
pub accepted : (n : ℕ) (w : List ℕ) → length w ≡ n → ((i : ℕ) → i < n → get_or w i 0 < 1024) → refusal_of n w ≡ None
accepted n w e small = refused_so n w e ∙ ap (option_map Symbol) (lowest_none (large w) n (λ i l. le-ltb 1023 (get_or w i 0) (let s = small i l in omega arith)))
