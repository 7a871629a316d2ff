-- What an engine answers to a word, and how it leaves it: the definitions say what they are to say, and no other outcome would.
use Rattle.std.proofs.Common.{◌≡◌, ℕ, ◌<◌, ◌≤◌, List, Ok, Err, Result, Some, None, Option, sym, subst, refl, ap, ◌∙◌, arith}
use native.Mathlib.Decide.{dec_lt}
use Rattle.code.specs.declared.refusal.Refusal.{Refusal}
use Rattle.code.specs.declared.refusal.Refusal.TheVariants.{Length, Symbol, Reach}
use Rattle.code.specs.Code.{distance}
use Rattle.code.specs.Code.{WellFormed, codeword_near}
use Rattle.code.specs.Answers.{refusal_of, unless, correction, corrected_count, corrected_word}
use Rattle.code.specs.Laws.{IsLowestLarge, Malformed, Refused, Repaired, Corrected, AnswersAgree, EngineLaws}
use Rattle.std.specs.Option.{ok_or}
use Rattle.std.specs.Result.{result_map_both, result_unwrap_or}
use Rattle.code.proofs.Existing.{each_encodes}
use Rattle.code.proofs.Near.{near_some, near_none}
use Rattle.code.proofs.Refusals.{refused_some, refused_none}
use Rattle.code.proofs.Answered.{not_formed, watching_keeps}
use Rattle.code.proofs.Far.{far_apart}

lowest_is : (w : List ℕ) (i j : ℕ) → IsLowestLarge w i → IsLowestLarge w j → i ≡ j
lowest_is w i j p q = go (dec_lt i j) (dec_lt j i)
  where
    go : Dec (i < j) → Dec (j < i) → i ≡ j
    go (yes a) b = absurd (let s = q.before i a in let l = p.large in omega arith)
    go (no a) (yes b) = absurd (let s = p.before j b in let l = q.large in omega arith)
    go (no a) (no b) = omega arith

-- a word that one engine repairs is not refused
never : (reach : ℕ) (w v : List ℕ) (n : ℕ) (e : Refusal) → Repaired reach w v n → Refused reach w e → ⊥
never reach w v n Length p q = q p.formed.size
never reach w v n (Symbol i) p q = not_formed w i q.1 p.formed
never reach w v n Reach p q = q.1 v p.codeword (let d = p.changed in let s = p.within in omega arith)

same_refusal : (reach : ℕ) (w : List ℕ) (d e : Refusal) → Refused reach w d → Refused reach w e → d ≡ e
same_refusal reach w Length Length p q = refl
same_refusal reach w Length (Symbol j) p q = absurd (p q.0)
same_refusal reach w Length Reach p q = absurd (p q.0.size)
same_refusal reach w (Symbol i) Length p q = absurd (q p.0)
same_refusal reach w (Symbol i) (Symbol j) p q = ap Symbol (lowest_is w i j p.1 q.1)
same_refusal reach w (Symbol i) Reach p q = absurd (not_formed w i p.1 q.0)
same_refusal reach w Reach Length p q = absurd (q p.0.size)
same_refusal reach w Reach (Symbol j) p q = absurd (not_formed w j q.1 p.0)
same_refusal reach w Reach Reach p q = refl

-- two outcomes that engines of one reach may have are the same
pub engines_agree : AnswersAgree
engines_agree reach h w v u (Ok n) (Ok m) p q =
    let e : v ≡ u = far_apart.single reach h w v u p.codeword q.codeword (let d = p.changed in let l = p.within in omega arith) (let d = q.changed in let l = q.within in omega arith) in
    (e, ap Ok (sym p.changed ∙ ap (distance w) e ∙ q.changed))
engines_agree reach h w v u (Ok n) (Err e) p q = absurd (never reach w v n e p q.1)
engines_agree reach h w v u (Err d) (Ok m) p q = absurd (never reach w u m d q p.1)
engines_agree reach h w v u (Err d) (Err e) p q = (p.0 ∙ sym q.0, ap Err (same_refusal reach w d e p.1 q.1))

-- a word that is not well formed is refused for that
pub malformed_refused : (reach : ℕ) (w : List ℕ) (e : Refusal) → Malformed 544 w e → Refused reach w e
malformed_refused reach w Length h = h
malformed_refused reach w (Symbol i) h = h
malformed_refused reach w Reach h = absurd h

-- what a correction answers and leaves is what it is to be
abbrev Outcome : ℕ → List ℕ → Result (List ℕ) Refusal → Type 0
Outcome reach w c = Corrected reach w (result_unwrap_or c w) (result_map_both (distance w) (λ e. e) c)

-- the answer and the word left that the definitions name are such an outcome
corrects : (reach : ℕ) (w : List ℕ) → Corrected reach w (corrected_word reach w) (corrected_count reach w)
unfolding correction
corrects reach w = split (refusal_of 544 w) refl (codeword_near reach w) refl
  where
    formed : refusal_of 544 w ≡ None → WellFormed w
    formed p = let t = refused_none 544 w p in record { size = t.0; symbols = t.1 }

    outcome : (o : Option Refusal) → refusal_of 544 w ≡ o → (c : Option (List ℕ)) → codeword_near reach w ≡ c → Outcome reach w (unless o (ok_or c Reach))
    outcome (Some e) p c q = (refl, malformed_refused reach w e (refused_some 544 w e p))
    outcome None p None q = (refl, (formed p, near_none reach w q))
    outcome None p (Some v) q = let t = near_some reach w v q in record { formed = formed p; codeword = t.0; changed = refl; within = t.1 }

    split : (o : Option Refusal) → refusal_of 544 w ≡ o → (c : Option (List ℕ)) → codeword_near reach w ≡ c → Outcome reach w (unless (refusal_of 544 w) (ok_or (codeword_near reach w) Reach))
    split o p c q = rw (p, q) (outcome o p c q)

pub engine_laws : (reach : ℕ) → reach ≤ 15 → EngineLaws reach
engine_laws reach small = record {
  corrects = corrects reach;
  alone = alone;
  restores = λ c w code formed near.
      let t = alone w c (Ok (distance w c)) (record { formed = formed; codeword = code; changed = refl; within = near }) in
      (sym t.0, sym t.1);
  watches = λ e w. watching_keeps w (corrected_word reach w) (corrected_count reach w) (subst (λ n. Corrected n w (corrected_word reach w) (corrected_count reach w)) e (corrects reach w));
  apart = far_apart;
  each = each_encodes;
}
  where
    alone : (w v : List ℕ) (r : Result ℕ Refusal) → Corrected reach w v r → (v ≡ corrected_word reach w) × (r ≡ corrected_count reach w)
    alone w v r h = engines_agree reach small w v (corrected_word reach w) r (corrected_count reach w) h (corrects reach w)

-- an outcome of an engine, as its contract says it
pub record Engines (reach : ℕ) (w v : List ℕ) (r : Result ℕ Refusal) : Type 0 where
  pub answer : r ≡ corrected_count reach w
  pub word : v ≡ corrected_word reach w
  pub laws : EngineLaws reach

pub engine_so : (reach : ℕ) → reach ≤ 15 → (w v : List ℕ) (r : Result ℕ Refusal) → Corrected reach w v r → Engines reach w v r
engine_so reach small w v r h = let l = engine_laws reach small in let t = l.alone w v r h in record { answer = t.1; word = t.0; laws = l }
