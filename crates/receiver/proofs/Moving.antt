-- Positions moved one after another.
use Rattle.std.proofs.Common.{◌≡◌, ℕ, zero, suc, ◌+◌, ◌<◌, ◌≤◌, Bool, false, true, cond, ◌≢◌, List, [], ◌∷◌, length, map, get_or, set, Some, None, Option, sym, refl, ap, ◌∙◌, ap₂, not-suc-le-zero, le_of_suc-le-suc, add-one, arith, length-set, get_or-set_other, get_or-set_same, below_more}
use Rattle.std.proofs.lemmas.List.{ext_get_or}
use Rattle.bits.specs.Lowest.{or_else, lowest}
use Rattle.receiver.specs.Positions.{each}
use Rattle.receiver.specs.Steps.{first_of}

pub length-each : {A B : Type 0} (f : ℕ → A → B) (xs : List A) → length (each f xs) ≡ length xs
unfolding each
length-each f [] = refl
length-each f (x ∷ xs) = ap suc (length-each (λ i. f (suc i)) xs)

pub at-each : {A B : Type 0} (f : ℕ → A → B) (xs : List A) (i : ℕ) (d : A) (e : B) → i < length xs → get_or (each f xs) i e ≡ f i (get_or xs i d)
unfolding each
at-each f [] i d e h = absurd (not-suc-le-zero h)
at-each f (x ∷ xs) zero d e h = refl
at-each f (x ∷ xs) (suc i) d e h = at-each (λ j. f (suc j)) xs i d e (le_of_suc-le-suc h)

pub each-map : {A B C : Type 0} (f : ℕ → B → C) (g : A → B) (xs : List A) → each f (map g xs) ≡ each (λ i x. f i (g x)) xs
unfolding each
each-map f g [] = refl
each-map f g (x ∷ xs) = ap (λ (l : List _). f 0 (g x) ∷ l) (each-map (λ i. f (suc i)) g xs)

pub each-same : {A B : Type 0} (f g : ℕ → A → B) (xs : List A) (d : A) → ((i : ℕ) → i < length xs → f i (get_or xs i d) ≡ g i (get_or xs i d)) → each f xs ≡ each g xs
unfolding each
each-same f g [] d h = refl
each-same f g (x ∷ xs) d h =
    ap₂ ◌∷◌ (h 0 (omega arith)) (each-same (λ i. f (suc i)) (λ i. g (suc i)) xs d (λ i l. h (suc i) (omega arith)))

pub each-all : {A B : Type 0} (f : A → B) (xs : List A) → each (λ i. f) xs ≡ map f xs
unfolding each
each-all f [] = refl
each-all f (x ∷ xs) = ap (λ (l : List _). f x ∷ l) (each-all f xs)

-- the first n of a list are moved, and the others stay
pub record Moved {A : Type 0} (d : A) (n : ℕ) (f : ℕ → A → A) (xs ys : List A) : Type 0 where
  pub long : length ys ≡ length xs
  pub moves : (k : ℕ) → k < n → get_or ys k d ≡ f k (get_or xs k d)
  pub stays : (k : ℕ) → n ≤ k → get_or ys k d ≡ get_or xs k d

pub moved_none : {A : Type 0} (d : A) (f : ℕ → A → A) (xs : List A) → Moved d 0 f xs xs
moved_none d f xs = record { long = refl; moves = λ k h. absurd (not-suc-le-zero h); stays = λ k h. refl }

pub moved_more : {A : Type 0} (d : A) (n : ℕ) (f : ℕ → A → A) (xs ys : List A) (r : A) → n < length xs → Moved d n f xs ys → r ≡ f n (get_or ys n d) → Moved d (n + 1) f xs (set ys n r)
moved_more d n f xs ys r h m e =
    let l : n < length ys = omega (arith, m.long) in
    record {
      long = length-set ys n r ∙ m.long;
      moves = below_more _ _
          (λ k b. let ne : k ≢ n = omega arith in rw get_or-set_other (m.moves k b))
          (rw get_or-set_same (e ∙ ap (f n) (m.stays n (omega arith))));
      stays = λ k b. let ne : k ≢ n = omega arith in rw get_or-set_other (m.stays k (omega arith));
    }

pub moved_all : {A : Type 0} (d : A) (n : ℕ) (f : ℕ → A → A) (xs ys : List A) → length xs ≤ n → Moved d n f xs ys → ys ≡ each f xs
moved_all d n f xs ys h m =
    ext_get_or d ys (each f xs) (m.long ∙ sym (length-each f xs)) (λ k l.
    let b : k < length xs = omega (arith, m.long) in
    m.moves k (omega arith) ∙ sym (at-each f xs k d d b))

-- the lowest, one place further
pub lowest_more : (f : ℕ → Bool) (n : ℕ) (o : Option ℕ) (b : Bool) → o ≡ lowest f n → b ≡ f n → first_of o b n ≡ lowest f (n + 1)
unfolding lowest
lowest_more f n o b e d = rw add-one (split o b n ∙ ap₂ (λ (x : Option ℕ) (y : Bool). or_else x (cond y (Some n) None)) e d)
  where
    split : (o : Option ℕ) (b : Bool) (n : ℕ) → first_of o b n ≡ or_else o (cond b (Some n) None)
    split (Some k) b n = refl
    split None b n = refl
