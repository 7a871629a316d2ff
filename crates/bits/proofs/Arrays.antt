-- Arrays made element by element, and slices as chunks.
use Rattle.std.proofs.Common.{◌≡◌, ℕ, zero, suc, ◌+◌, ◌*◌, ◌<◌, List, [], ◌∷◌, map, length, get_or, take, drop, sym, ap, ◌∙◌, inl, inr, arith}
use Rattle.std.proofs.lemmas.List.{same_lists, nil_from_length, get_or-map, length-map, drop-drop, get_or-take, get_or-drop, get_or_past, length-take}
use Rattle.std.proofs.lemmas.Bool.{cases_lt}
use Rattle.std.specs.Array.{IsMapOf}
use Rattle.std.specs.Fn.{Called}
use Rattle.std.specs.Simd.{first_chunks}
use denote.Param.Members.{Mut}

-- `map` with a closure that computes h
pub mapped : {F A B : Type 0} {g : Mut F (A × Unit {0}) B} {f : F} (h : A → B) (xs : List A) (ys : List B) (n : ℕ) → IsMapOf g f xs ys n → length xs ≡ n →
    ((p q : F) (x : A) (y : B) → Called g p (x, tt {0}) y q → y ≡ h x) → ys ≡ map h xs
mapped h [] ys n made long tells = nil_from_length ys (made.long ∙ sym long)
mapped h (e ∷ xs) ys n made long tells = same_lists ys (map h (e ∷ xs)) (made.long ∙ sym long ∙ sym (length-map (e ∷ xs) h)) (λ k d l.
    let i : k < length (e ∷ xs) = omega (arith, made.long) in
    let m = made.at k e d (omega (arith, made.long)) in
    tells m.0 m.1 (get_or (e ∷ xs) k e) (get_or ys k d) m.2 ∙ sym (get_or-map h (e ∷ xs) k e d i))

-- and where what was mapped is a list that is known
pub mapped_of : {F A B : Type 0} {g : Mut F (A × Unit {0}) B} {f : F} (h : A → B) (qs xs : List A) (ys : List B) (n : ℕ) → IsMapOf g f qs ys n → length qs ≡ n →
    ((p q : F) (x : A) (y : B) → Called g p (x, tt {0}) y q → y ≡ h x) → qs ≡ xs → ys ≡ map h xs
mapped_of h qs xs ys n made long tells e = mapped h qs ys n made long tells ∙ ap (map h) e

pub chunk_at : {X : Type 0} (n k : ℕ) (xs : List X) (i : ℕ) → i < k → get_or (first_chunks n k xs) i [] ≡ take n (drop (n * i) xs)
chunk_at n zero xs i l = absurd (omega arith)
chunk_at n (suc k) xs zero l = let z : n * 0 ≡ 0 = omega arith in rw z
chunk_at n (suc k) xs (suc i) l =
    let e : n + n * i ≡ n * suc i = omega arith in
    chunk_at n k (drop n xs) i (omega arith) ∙ ap (take n) (drop-drop (n * i) n xs ∙ ap (λ (j : ℕ). drop j xs) e)

-- a part of bytes has bytes
pub small_part : (xs : List ℕ) → ((i : ℕ) → get_or xs i 0 < 256) → (n m k : ℕ) → (i : ℕ) → get_or (take n (drop m (drop k xs))) i 0 < 256
small_part xs small n m k i = elim (cases_lt i n) [
  | inl l ↦ rw (get_or-take, get_or-drop, get_or-drop) (small (k + (m + i)))
  | inr l ↦ let z = get_or_past (take n (drop m (drop k xs))) i 0 (rw length-take (omega arith)) in rw z (omega arith)
]
