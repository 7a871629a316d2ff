-- The errors of a word in reach of a codeword are at the roots of the locator.
use Rattle.std.proofs.Common.{◌≡◌, ℕ, zero, suc, ◌+◌, ◌-◌, ◌*◌, ◌<◌, ◌≤◌, ◌⊎◌, List, [], ◌∷◌, length, take, get_or, sym, refl, ap, ◌∙◌, subst, inl, inr, ⊎_elim, le_of_suc-le-suc, eq-or-lt_of_le, arith}
use native.Mathlib.Decide.{ℕ_discrete}
use Rattle.field.specs.Laws.{Group, Ring, FieldLaws}
use Rattle.field.specs.Sums.{sum, syndrome, polynomial}
use Rattle.field.proofs.Algebra.{one_right, cancel}
use Rattle.field.proofs.Sums.{sum_same}
use Rattle.field.specs.Places.{Among, Distinct, Below, Apart}
use Rattle.field.proofs.Distance.{error, error_syndrome, error_back, error_zero, errors_within}
use Rattle.field.proofs.Locator.{located}
use Rattle.field.proofs.Roots.{few_roots}
use Rattle.decoder.specs.Words.{Monic, Annihilates}
use native.Mathlib.Decide.{dec_lt}
use Rattle.decoder.specs.Errors.{Found, Subtracted, gaps, error_value}
use Rattle.decoder.specs.Decoding.{IsClean, Near, Proposal}
use Rattle.decoder.specs.Words.{word_syndrome}
use Rattle.decoder.specs.declared.elimination.Row.{Row}
use Rattle.decoder.specs.Elimination.{Candidate}
use Rattle.std.proofs.lemmas.List.{get_or-take}
use Rattle.decoder.proofs.Evaluation.{found_all}
use Rattle.decoder.proofs.Stages.{row_at_reach}
use Rattle.decoder.proofs.ErrorValues.{without_terms-same, without_terms-term, gaps_open}

abbrev Place : (ℕ → ℕ) → ℕ → ℕ → Type 0
Place f m i = (t : ℕ) × (t < m) × (f t ≡ i)

place? : (f : ℕ → ℕ) (m i : ℕ) → Dec (Place f m i)
place? f zero i = no (λ p. (let l = p.1 in omega arith))
place? f (suc m) i = go (place? f m i) (ℕ_discrete (f m) i)
  where
    go : Dec (Place f m i) → Dec (f m ≡ i) → Dec (Place f (suc m) i)
    go (yes p) d = yes (p.0, (let l = p.1 in let q : p.0 < suc m = omega arith in q), p.2)
    go (no p) (yes q) = yes (m, (let z : m < suc m = omega arith in z), q)
    go (no p) (no q) = no (λ w. ⊎_elim (λ e. q (ap f (sym e) ∙ w.2)) (λ l. p (w.0, l, w.2)) (eq-or-lt_of_le (le_of_suc-le-suc w.1)))

places : (ℕ → ℕ) → ℕ → List ℕ
places f zero = []
places f (suc m) = f m ∷ places f m

places_length : (f : ℕ → ℕ) (m : ℕ) → length (places f m) ≡ m
unfolding places
places_length f zero = refl
places_length f (suc m) = ap suc (places_length f m)

places_among : (f : ℕ → ℕ) (m i : ℕ) → Among i (places f m) → Place f m i
unfolding places
places_among f zero i a = absurd a
places_among f (suc m) i (inl e) = (m, (let z : m < suc m = omega arith in z), sym e)
places_among f (suc m) i (inr a) = let p = places_among f m i a in (p.0, (let l = p.1 in let q : p.0 < suc m = omega arith in q), p.2)

places_distinct : (f : ℕ → ℕ) (m : ℕ) → ((t u : ℕ) → t < u → u < m → f t < f u) → Distinct (places f m)
unfolding places
places_distinct f zero h = tt
places_distinct f (suc m) h =
    (λ a. (let p = places_among f m (f m) a in let l = h p.0 m p.1 (omega arith) in let q = p.2 in omega arith), places_distinct f m (λ t u a b. h t u a (omega arith)))

places_below : (n : ℕ) (f : ℕ → ℕ) (m : ℕ) → ((t : ℕ) → t < m → f t < n) → Below n (places f m)
unfolding places
places_below n f zero h = tt
places_below n f (suc m) h = (h m (omega arith), places_below n f m (λ t l. h t (omega arith)))

module _ {F : Type 0} (g : Group F) (r : Ring F) (laws : FieldLaws g r) where
  infixl 60 ◌⊕◌
  infixl 70 ◌⊗◌
  open g use {zero as 𝟎, plus as ◌⊕◌, minus}
  open r use {times as ◌⊗◌, over}

  few_places : (n D d : ℕ) (x : ℕ → F) (v : List F) → Apart n x → d < D → Monic g r d v → (f : ℕ → ℕ) (m : ℕ)
      → ((t : ℕ) → t < m → f t < n) → ((t u : ℕ) → t < u → u < m → f t < f u) → ((t : ℕ) → t < m → polynomial g r D (λ j. get_or v j 𝟎) (x (f t)) ≡ 𝟎) → m ≤ d
  few_places n D d x v apart l monic f m below asc roots =
      let h = few_roots g r laws n D d x (λ j. get_or v j 𝟎) apart l monic.0 monic.1 (places f m) (places_distinct f m asc) (places_below n f m below)
      (λ p a. (let q = places_among f m p a in subst (λ i. polynomial g r D (λ j. get_or v j 𝟎) (x i) ≡ 𝟎) q.2 (roots q.0 q.1))) in
      let e = places_length f m in
      omega arith

  -- each place with an error is found
  errors_found : (n reach : ℕ) (x w c : ℕ → F) (code : (k : ℕ) → k < 2 * reach → syndrome g r n x c k ≡ 𝟎) → Apart n x → (qs : List ℕ) → length qs ≤ reach → ((i : ℕ) → i < n → (w i ≡ c i) ⊎ Among i qs)
      → (s v : List F) → ((k : ℕ) → k < 2 * reach → get_or s k 𝟎 ≡ syndrome g r n x w k) → Annihilates g r v s (reach + 1) reach
      → (f : ℕ → ℕ) (count : ℕ) → ((i : ℕ) → i < n → polynomial g r (reach + 1) (λ j. get_or v j 𝟎) (x i) ≡ 𝟎 → Place f count i)
      → (i : ℕ) → i < n → (error g r laws n (2 * reach) x w c code i ≡ 𝟎) ⊎ Place f count i
  errors_found n reach x w c code apart qs len near s v syn annihilates f count all i l = go (place? f count i)
    where
      err : ℕ → F
      err = error g r laws n (2 * reach) x w c code

      annihilated : (k : ℕ) → k < reach → sum g (reach + 1) (λ j. get_or v j 𝟎 ⊗ syndrome g r n x err (k + j)) ≡ 𝟎
      annihilated k q =
          sum_same g (reach + 1) (λ j. get_or v j 𝟎 ⊗ syndrome g r n x err (k + j)) (λ j. get_or v j 𝟎 ⊗ get_or s (k + j) 𝟎)
          (λ j z. ap (λ y. get_or v j 𝟎 ⊗ y) (sym (syn (k + j) (omega arith) ∙ error_syndrome g r laws n (2 * reach) x w c code (k + j) (omega arith))))
          ∙ annihilates k q

      product : err i ⊗ polynomial g r (reach + 1) (λ j. get_or v j 𝟎) (x i) ≡ 𝟎
      product = located g r laws n (reach + 1) reach x err (λ j. get_or v j 𝟎) apart qs (errors_within g r laws n (2 * reach) x w c code qs near) len annihilated i l

      go : Dec (Place f count i) → (err i ≡ 𝟎) ⊎ Place f count i
      go (yes p) = inr p
      go (no p) = inl (cancel g r laws (err i) (polynomial g r (reach + 1) (λ j. get_or v j 𝟎) (x i)) product (λ e. p (all i l e)))

  among_places : (f : ℕ → ℕ) (m i : ℕ) → Place f m i → Among i (places f m)
  unfolding places
  among_places f zero i p = absurd (let l = p.1 in omega arith)
  among_places f (suc m) i p = ⊎_elim (λ e. inl (sym p.2 ∙ ap f e)) (λ l. inr (among_places f m i (p.0, l, p.2))) (eq-or-lt_of_le (le_of_suc-le-suc p.1))

  -- the places found, at which the row v has its roots
  module _ (xs v : List F) (found : List ℕ) (n reach m d : ℕ) (apart : Apart n (λ i. get_or xs i 𝟎)) (monic : Monic g r d v) (low : d < reach + 1) (lists : Found g r v (reach + 1) xs n found m) where
    abbrev place : ℕ → ℕ
    place t = get_or found t 0

    abbrev point : ℕ → F
    point i = get_or xs i 𝟎

    pub few : m ≤ reach
    few = let h = few_places n (reach + 1) d point v apart low monic place m lists.within lists.ascend lists.root in omega arith

    -- no gap between two of them is zero
    open_gaps : (spots : List F) → ((t : ℕ) → t < m → get_or spots t 𝟎 ≡ point (place t)) → (j : ℕ) → j < m → gaps g r spots j m ≡ 𝟎 → ⊥
    open_gaps spots at j l =
        gaps_open g r laws spots j m
        (λ t h ne e. (let q = apart (place j) (place t) (lists.within j l) (lists.within t h) (sym (at j l) ∙ e ∙ at t h) in differ t h ne q))
      where
        differ : (t : ℕ) → t < m → (t ≡ j → ⊥) → place j ≡ place t → ⊥
        differ t h ne q = side (dec_lt t j)
          where
            side : Dec (t < j) → ⊥
            side (yes z) = let w = lists.ascend t j z l in omega arith
            side (no z) = let w = lists.ascend j t (⊎_elim (λ e. absurd (ne (sym e))) (λ e. e) (eq-or-lt_of_le (let y : j ≤ t = omega arith in y))) h in omega arith

    -- the word less the errors there, which the first m syndromes give
    module _ (word s front : List F) (syn : (k : ℕ) → k < 2 * reach → get_or s k 𝟎 ≡ word_syndrome g r word xs k n) (same : (k : ℕ) → k < m → get_or front k 𝟎 ≡ get_or s k 𝟎) (annihilates : Annihilates g r v s (reach + 1) reach)
        (spots out : List F) (size : length out ≡ n) (at : (t : ℕ) → t < m → get_or spots t 𝟎 ≡ point (place t)) (less : Subtracted g r word found spots front m m out) where
      near : Near g n reach word out
      near = (places place m, (let e = places_length place m in let f = few in let q : length (places place m) ≤ reach = omega arith in q), λ i l. go i (place? place m i))
        where
          go : (i : ℕ) → Dec (Place place m i) → (get_or word i 𝟎 ≡ get_or out i 𝟎) ⊎ Among i (places place m)
          go i (yes p) = inr (among_places place m i p)
          go i (no p) = inl (sym (less.rest i (λ t l e. p (t, l, e))))

      -- each codeword near the word is what is left of it
      the_word : (c : List F) → IsClean g r xs n (2 * reach) c → Near g n reach word c → (i : ℕ) → i < n → get_or out i 𝟎 ≡ get_or c i 𝟎
      the_word c code close i l = go (place? place m i)
        where
          err : ℕ → F
          err = error g r laws n (2 * reach) (λ k. get_or xs k 𝟎) (λ k. get_or word k 𝟎) (λ k. get_or c k 𝟎) code

          found_at : (k : ℕ) → k < n → (err k ≡ 𝟎) ⊎ Place place m k
          found_at = errors_found n reach (λ k. get_or xs k 𝟎) (λ k. get_or word k 𝟎) (λ k. get_or c k 𝟎) code apart close.0 close.1 close.2 s v syn annihilates place m lists.all

          value : (t : ℕ) → t < m → error_value g r spots (λ k. get_or front k 𝟎) m t ≡ err (place t)
          value t h =
              ap (λ z. z ⊗ over (gaps g r spots t m))
              (without_terms-same g r laws spots (λ k. get_or front k 𝟎) (syndrome g r n (λ k. get_or xs k 𝟎) err) m t
              (λ k q. same k q ∙ syn k (let f = few in omega arith) ∙ error_syndrome g r laws n (2 * reach) (λ k. get_or xs k 𝟎) (λ k. get_or word k 𝟎) (λ k. get_or c k 𝟎) code k (let f = few in omega arith))
              m 0 (λ z. absurd (omega arith)) (λ z. (omega arith))
              ∙ without_terms-term g r laws n (λ k. get_or xs k 𝟎) spots place t err m h at (lists.within t h) found_at)
              ∙ laws.assoc (err (place t)) (gaps g r spots t m) (over (gaps g r spots t m)) ∙ ap (λ z. err (place t) ⊗ z) (laws.inverse (gaps g r spots t m) (open_gaps spots at t h)) ∙ one_right g r laws (err (place t))

          back : (k : ℕ) → get_or word k 𝟎 ⊕ minus (err k) ≡ get_or c k 𝟎
          back k = error_back g r laws n (2 * reach) (λ k. get_or xs k 𝟎) (λ k. get_or word k 𝟎) (λ k. get_or c k 𝟎) code k

          go : Dec (Place place m i) → get_or out i 𝟎 ≡ get_or c i 𝟎
          go (yes p) =
              subst (λ k. get_or out k 𝟎 ≡ get_or c k 𝟎) p.2
              (less.done p.0 p.1 ∙ ap (λ z. get_or word (place p.0) 𝟎 ⊕ minus z) (value p.0 p.1) ∙ back (place p.0))
          go (no p) = less.rest i (λ t h e. p (t, h, e)) ∙ ⊎_elim (λ e. error_zero g r laws n (2 * reach) (λ k. get_or xs k 𝟎) (λ k. get_or word k 𝟎) (λ k. get_or c k 𝟎) code i e) (λ q. absurd (p q)) (found_at i l)

      pub proposal : Proposal g r xs n reach word out
      proposal = record { size = size; near = near; only = the_word }

  -- the row found among the first reach + 1 rows, and the places of its roots
  module _ (xs s : List F) (row : Row F) (found : List ℕ) (n reach size m : ℕ) (apart : Apart n (λ i. get_or xs i 𝟎)) (rows : size ≡ reach + 1) (room : reach + 1 ≤ length row.coefficients)
      (candidate : Candidate g r s size (size - 1) row) (listed : Found g r (take (row.degree + 1) row.coefficients) (length (take (row.degree + 1) row.coefficients)) xs n found m) where
    is : Candidate g r s (reach + 1) reach row
    is = row_at_reach g r s size reach row rows candidate

    lists : Found g r row.coefficients (reach + 1) xs n found m
    lists = found_all g r laws row.coefficients row.degree (reach + 1) xs n found m is.monic is.small room listed

    pub few_found : m ≤ reach
    few_found = few xs row.coefficients found n reach m row.degree apart is.monic is.small lists

    pub proposal_found : (word spots out : List F) → length out ≡ n → ((k : ℕ) → k < 2 * reach → get_or s k 𝟎 ≡ word_syndrome g r word xs k n)
        → ((t : ℕ) → t < m → get_or spots t 𝟎 ≡ get_or xs (get_or found t 0) 𝟎) → Subtracted g r word found spots (take m s) m m out → Proposal g r xs n reach word out
    proposal_found word spots out long syn at less =
        proposal xs row.coefficients found n reach m row.degree apart is.monic is.small lists word s (take m s) syn (λ k h. get_or-take m s k 𝟎 h) is.annihilates spots out long at less
