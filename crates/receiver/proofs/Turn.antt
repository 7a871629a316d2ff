-- A ring as a list.
use Rattle.std.proofs.Common.{◌≡◌, ℕ, suc, ◌+◌, ◌-◌, ◌%◌, ◌<◌, min, ◌≤◌, ◌⊎◌, List, [], ◌∷◌, ◌++◌, reverse, length, get_or, take, drop, set, sym, ap, ◌∙◌, ap₂, inl, inr, append_assoc, append-nil, arith, length-append, length-drop, length-set, take_all, mod-eq_of_lt}
use Rattle.std.proofs.Math.Nat.{mod_self}
use mathlib.Core.List.{reverse-append}
use lib.ListN.{length-reverse}
use Rattle.std.proofs.lemmas.List.{take_more_set, length-take-le, drop-set-lt, drop_more, take_at, drop_all, get_or_append_left, get_or-append_right, get_or-reverse, get_or-take, get_or-drop, take-take, length-take}
use Rattle.std.proofs.lemmas.Bool.{cases_lt}
use Rattle.receiver.specs.Turns.{newest_first}
use Rattle.receiver.specs.Recent.{kept}

-- at the end of the ring the next place is the first
whole : (ws : List ℕ) (n : ℕ) → length ws ≡ n → newest_first ws n ≡ newest_first ws 0
unfolding newest_first
whole ws n e =
    let h : length ws ≤ n = omega arith in
    ap₂ (λ (a b : List ℕ). reverse a ++ reverse b) (take_all n ws h) (drop_all n ws h) ∙ append-nil (reverse ws)

length-newest : (ws : List ℕ) (at : ℕ) → at ≤ length ws → length (newest_first ws at) ≡ length ws
unfolding newest_first
length-newest ws at h =
    length-append (reverse (take at ws)) (reverse (drop at ws))
    ∙ ap₂ (λ (a b : ℕ). a + b) (length-reverse (take at ws) ∙ length-take-le at ws h) (length-reverse (drop at ws) ∙ length-drop at ws)
    ∙ omega arith

push_next : (ws : List ℕ) (at w n : ℕ) → length ws ≡ suc n → at < suc n → newest_first (set ws at w) (at + 1) ≡ w ∷ take n (newest_first ws at)
unfolding newest_first
push_next ws at w n e h =
    let l : at < length ws = omega arith in
    let rest = reverse (drop (at + 1) ws) in
    let front = reverse (take at ws) in
    let x = get_or ws at 0 in
    let split : newest_first ws at ≡ (front ++ rest) ++ (x ∷ []) =
    ap (λ (b : List ℕ). front ++ b) (ap reverse (drop_more ws at 0 l) ∙ reverse-append (x ∷ []) (drop (at + 1) ws))
    ∙ sym (append_assoc front rest (x ∷ [])) in
    let long : length (front ++ rest) ≡ n =
    let a = length-append (front ++ rest) (x ∷ []) in
    let b = ap length split in
    let c = length-newest ws at (omega arith) in
    omega arith in
    ap₂ (λ (a b : List ℕ). reverse a ++ reverse b) (take_more_set ws at w l) (drop-set-lt (at + 1) ws at w (omega arith))
    ∙ ap (λ (b : List ℕ). b ++ rest) (reverse-append (take at ws) (w ∷ []))
    ∙ ap (λ (b : List ℕ). w ∷ b) (sym (ap (take n) split ∙ take_at (front ++ rest) (x ∷ []) n long))

-- a turn of the ring, whose size is a variable: 8,192 is not to be counted down
turned : (ws : List ℕ) (next w n : ℕ) → length ws ≡ suc n → next < suc n → newest_first (set ws next w) ((next + 1) % suc n) ≡ w ∷ take n (newest_first ws next)
turned ws next w n e h = go (cases_lt (next + 1) (suc n))
  where
    go : (next + 1 < suc n) ⊎ (suc n ≤ next + 1) → newest_first (set ws next w) ((next + 1) % suc n) ≡ w ∷ take n (newest_first ws next)
    go (inl l) = let s : (next + 1) % suc n ≡ next + 1 = mod-eq_of_lt l in rw s (push_next ws next w n e h)
    go (inr l) =
        let f : suc n ≡ next + 1 = omega arith in
        let s : (next + 1) % suc n ≡ 0 = ap (λ (k : ℕ). k % suc n) (sym f) ∙ mod_self (suc n) in
        ap (newest_first (set ws next w)) s ∙ sym (whole (set ws next w) (suc n) (length-set ws next w ∙ e)) ∙ ap (newest_first (set ws next w)) f ∙ push_next ws next w n e h

shorter : (m n : ℕ) (xs : List ℕ) → take (min m n) xs ≡ take n (take m xs)
shorter m n xs = elim (cases_lt m n) [
  | inl l ↦ let e : min m n ≡ m = omega arith in rw e (sym (take_all n (take m xs) (omega (arith, length-take m xs))))
  | inr l ↦ let e : min m n ≡ n = omega arith in rw e (sym (take-take n m xs l))
]

pub push_kept : (ws : List ℕ) (next len w n : ℕ) → length ws ≡ suc n → next < suc n →
    take (min (len + 1) (suc n)) (newest_first (set ws next w) ((next + 1) % suc n)) ≡ kept (suc n) (take len (newest_first ws next)) w
push_kept ws next len w n e h =
    let m : min (len + 1) (suc n) ≡ suc (min len n) = omega arith in
    ap₂ (λ (k : ℕ) (xs : List ℕ). take k xs) m (turned ws next w n e h)
    ∙ ap (λ (xs : List ℕ). w ∷ xs) (take-take (min len n) n (newest_first ws next) (omega arith) ∙ shorter len n (newest_first ws next))

pub length_kept : (ws : List ℕ) (next len : ℕ) → next ≤ length ws → len ≤ length ws → length (take len (newest_first ws next)) ≡ len
length_kept ws next len h k = length-take-le len (newest_first ws next) (omega (arith, length-newest ws next h))

read_all : (ws : List ℕ) (at age : ℕ) → length ws ≡ 8192 → at < 8192 → age < 8192 → get_or ws ((at + 8192 - 1 - age) % 8192) 0 ≡ get_or (newest_first ws at) age 0
unfolding newest_first
read_all ws at age e h k = go (cases_lt age at)
  where
    lf : length (take at ws) ≡ at
    lf = length-take-le at ws (omega arith)

    go : (age < at) ⊎ (at ≤ age) → get_or ws ((at + 8192 - 1 - age) % 8192) 0 ≡ get_or (newest_first ws at) age 0
    go (inl l) =
        let s : (at + 8192 - 1 - age) % 8192 ≡ at - 1 - age = omega arith in
        ap (λ (i : ℕ). get_or ws i 0) s
        ∙ sym (get_or-take at ws (at - 1 - age) 0 (omega arith))
        ∙ ap (λ (i : ℕ). get_or (take at ws) (i - 1 - age) 0) (sym lf)
        ∙ sym (get_or-reverse (take at ws) age 0 (omega (arith, lf)))
        ∙ sym (get_or_append_left (reverse (take at ws)) (reverse (drop at ws)) 0 age (omega (arith, lf, length-reverse (take at ws))))
    go (inr l) =
        let s : (at + 8192 - 1 - age) % 8192 ≡ at + (8192 - at - 1 - (age - at)) = omega arith in
        let ld : length (drop at ws) ≡ 8192 - at = length-drop at ws ∙ omega arith in
        ap (λ (i : ℕ). get_or ws i 0) s
        ∙ sym (get_or-drop at ws (8192 - at - 1 - (age - at)) 0)
        ∙ ap (λ (i : ℕ). get_or (drop at ws) (i - 1 - (age - at)) 0) (sym ld)
        ∙ sym (get_or-reverse (drop at ws) (age - at) 0 (omega arith))
        ∙ sym (get_or-append_right (reverse (take at ws)) (reverse (drop at ws)) at age 0 (length-reverse (take at ws) ∙ lf) l)

pub read_age : (ws : List ℕ) (at len age : ℕ) → length ws ≡ 8192 → at < 8192 → len ≤ 8192 → age < length (take len (newest_first ws at)) → get_or ws ((at + 8192 - 1 - age) % 8192) 0 ≡ get_or (take len (newest_first ws at)) age 0
read_age ws at len age e h k l =
    let long = length_kept ws at len (omega arith) (omega arith) in
    let below : age < len = omega arith in
    read_all ws at age e h (omega arith) ∙ sym (get_or-take len (newest_first ws at) age 0 below)
