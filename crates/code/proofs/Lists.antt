-- Lists of symbols by their numbers, and the first of them at which a test holds.
use Rattle.std.proofs.Common.{◌≡◌, ℕ, zero, suc, ◌*◌, ◌+◌, ◌/◌, ◌^◌, ◌<◌, Bool, true, false, cond, List, [], ◌∷◌, length, get_or, Some, None, Option, sym, refl, ap, ◌∙◌, subst, ap₂, pow-suc, arith, lit<}
use Rattle.std.proofs.lemmas.Nat.{div-mul-add, mod-mul-add, mod_below}
use Rattle.std.specs.Option.{option_map}
use Rattle.bits.specs.Lowest.{or_else, lowest}
use Rattle.bits.proofs.Lowest.{none_below}
use Rattle.code.specs.Code.{digits_of, first_list}

-- what is found passes, and nothing below it does
pub lowest_some : (f : ℕ → Bool) (n i : ℕ) → lowest f n ≡ Some i → (i < n) × (f i ≡ true) × ((k : ℕ) → k < i → f k ≡ false)
unfolding lowest
lowest_some f zero i e = absurd (cc)
lowest_some f (suc n) i e = split (lowest f n) refl (f n) refl (lowest_some f n i) e
  where
    split : (o : Option ℕ) → lowest f n ≡ o → (b : Bool) → f n ≡ b → (lowest f n ≡ Some i → (i < n) × (f i ≡ true) × ((k : ℕ) → k < i → f k ≡ false)) → or_else o (cond b (Some n) None) ≡ Some i
        → (i < suc n) × (f i ≡ true) × ((k : ℕ) → k < i → f k ≡ false)
    split (Some j) p b q ih h = let t = ih (p ∙ h) in (omega (arith, t.0), t.1, t.2)
    split None p true q ih h = let s : n ≡ i = cc in (omega arith, ap f (sym s) ∙ q, λ k l. none_below f n p k (omega arith))
    split None p false q ih h = absurd (cc)

pub length_digits : (n x : ℕ) → length (digits_of n x) ≡ n
unfolding digits_of
length_digits zero x = refl
length_digits (suc n) x = ap suc (length_digits n (x / 1024))

pub digits_small : (n x i : ℕ) → get_or (digits_of n x) i 0 < 1024
unfolding digits_of
digits_small zero x i = lit< tt
digits_small (suc n) x zero = mod_below x 1024 (lit< tt)
digits_small (suc n) x (suc i) = digits_small n (x / 1024) i

-- the number whose digits are the symbols
unfoldable packed : List ℕ → ℕ
packed [] = 0
packed (a ∷ s) = packed s * 1024 + a

packed_below : (s : List ℕ) → ((i : ℕ) → get_or s i 0 < 1024) → packed s < 1024 ^ length s
unfolding packed
packed_below [] h = lit< tt
packed_below (a ∷ s) h = rw pow-suc (let p = packed_below s (λ i. h (suc i)) in let q = h 0 in omega arith)

digits_packed : (s : List ℕ) → ((i : ℕ) → get_or s i 0 < 1024) → digits_of (length s) (packed s) ≡ s
unfolding digits_of packed
digits_packed [] h = refl
digits_packed (a ∷ s) h =
    ap₂ ◌∷◌ (mod-mul-add (packed s) 1024 a (h 0)) (ap (digits_of (length s)) (div-mul-add (packed s) 1024 a (h 0)) ∙ digits_packed s (λ i. h (suc i)))

-- the first list at which f holds is one of n symbols, and f holds there
pub first_some : (n : ℕ) (f : List ℕ → Bool) (s : List ℕ) → first_list n f ≡ Some s → (f s ≡ true) × (length s ≡ n) × ((i : ℕ) → get_or s i 0 < 1024)
unfolding first_list
first_some n f s e = split (lowest (λ x. f (digits_of n x)) (1024 ^ n)) refl e
  where
    split : (o : Option ℕ) → lowest (λ x. f (digits_of n x)) (1024 ^ n) ≡ o → option_map (digits_of n) o ≡ Some s → (f s ≡ true) × (length s ≡ n) × ((i : ℕ) → get_or s i 0 < 1024)
    split None p q = absurd (cc)
    split (Some x) p q =
        let d : digits_of n x ≡ s = cc in
        let t = lowest_some (λ x. f (digits_of n x)) (1024 ^ n) x p in
        (ap f (sym d) ∙ t.1, ap length (sym d) ∙ length_digits n x, λ i. subst (λ (s : List ℕ). get_or s i 0 < 1024) d (digits_small n x i))

-- where there is none, f holds at no list of n symbols
pub first_none : (n : ℕ) (f : List ℕ → Bool) → first_list n f ≡ None → (s : List ℕ) → length s ≡ n → ((i : ℕ) → get_or s i 0 < 1024) → f s ≡ false
unfolding first_list
first_none n f e s size small = split (lowest (λ x. f (digits_of n x)) (1024 ^ n)) refl e
  where
    split : (o : Option ℕ) → lowest (λ x. f (digits_of n x)) (1024 ^ n) ≡ o → option_map (digits_of n) o ≡ None → f s ≡ false
    split None p q =
        ap f (sym (ap (λ n. digits_of n (packed s)) (sym size) ∙ digits_packed s small))
        ∙ none_below (λ x. f (digits_of n x)) (1024 ^ n) p (packed s) (subst (λ n. packed s < 1024 ^ n) size (packed_below s small))
    split (Some x) p q = absurd (cc)
