-- Parts put into a buffer one behind another.
use Rattle.std.proofs.Common.{◌≡◌, ℕ, ◌+◌, ◌<◌, List, [], ◌∷◌, ◌++◌, length, take, drop, set, sym, refl, ap, ◌∙◌, ap₂, append_assoc, append-nil, arith, length-append}
use Rattle.std.proofs.lemmas.List.{drop_all, drop-set, take_at, drop_at, drop-drop}
use Rattle.bits.specs.Bits.{field, octets}
use Rattle.bits.proofs.Octets.{length-octets}
use Rattle.blocks.specs.Groups.{words, group_octets}
use Rattle.blocks.proofs.Arrays.{octets-words}

-- k octets more, written behind those of p
pub put_more : (k : ℕ) (p o xs ys new : List ℕ) (n : ℕ) → length p ≡ n → ys ≡ p ++ drop n xs → new ≡ take n ys ++ (o ++ drop (n + k) ys) → new ≡ (p ++ o) ++ drop (n + k) xs
put_more k p o xs ys new n h e f =
    let back : drop (n + k) ys ≡ drop (n + k) xs = sym (drop-drop k n ys) ∙ ap (drop k) (ap (drop n) e ∙ drop_at p (drop n xs) n h) ∙ drop-drop k n xs in
    f ∙ ap₂ (λ (u v : List ℕ). u ++ (o ++ v)) (ap (take n) e ∙ take_at p (drop n xs) n h) back ∙ sym (append_assoc p o (drop (n + k) xs))

-- bit 0 in the first byte, then four times eight octets
pub laid_out : (f a b c d : ℕ) (xs s0 s1 s2 s3 s4 : List ℕ) → length xs ≡ 33 → s0 ≡ set xs 0 f →
    s1 ≡ take 1 s0 ++ (octets 8 (field a 0 64) ++ drop 9 s0) →
    s2 ≡ take 9 s1 ++ (octets 8 (field b 0 64) ++ drop 17 s1) →
    s3 ≡ take 17 s2 ++ (octets 8 (field c 0 64) ++ drop 25 s2) →
    s4 ≡ take 25 s3 ++ (octets 8 (field d 0 64) ++ drop 33 s3) →
    s4 ≡ group_octets (f ∷ words (a ∷ b ∷ c ∷ d ∷ []))
laid_out f a b c d xs s0 s1 s2 s3 s4 n e0 e1 e2 e3 e4 =
    let O : ℕ → List ℕ = λ x. octets 8 (field x 0 64) in
    let lo : (x : ℕ) → length (O x) ≡ 8 = λ x. length-octets 8 (field x 0 64) in
    let h : 0 < length xs = omega arith in
    let p1 : List ℕ = (f ∷ []) ++ O a in
    let p2 : List ℕ = p1 ++ O b in
    let p3 : List ℕ = p2 ++ O c in
    let n1 : length p1 ≡ 9 = length-append (f ∷ []) (O a) ∙ ap (λ (k : ℕ). 1 + k) (lo a) in
    let n2 : length p2 ≡ 17 = length-append p1 (O b) ∙ ap₂ (λ (j k : ℕ). j + k) n1 (lo b) in
    let n3 : length p3 ≡ 25 = length-append p2 (O c) ∙ ap₂ (λ (j k : ℕ). j + k) n2 (lo c) in
    let z : s0 ≡ (f ∷ []) ++ drop 1 xs = e0 ∙ drop-set xs 0 f h in
    let t1 : s1 ≡ p1 ++ drop 9 xs = put_more 8 (f ∷ []) (O a) xs s0 s1 1 refl z e1 in
    let t2 : s2 ≡ p2 ++ drop 17 xs = put_more 8 p1 (O b) xs s1 s2 9 n1 t1 e2 in
    let t3 : s3 ≡ p3 ++ drop 25 xs = put_more 8 p2 (O c) xs s2 s3 17 n2 t2 e3 in
    let t4 : s4 ≡ (p3 ++ O d) ++ drop 33 xs = put_more 8 p3 (O d) xs s3 s4 25 n3 t3 e4 in
    let end : drop 33 xs ≡ [] = drop_all 33 xs (omega arith) in
    t4 ∙ ap (λ (l : List ℕ). (p3 ++ O d) ++ l) end ∙ append-nil (p3 ++ O d)
    ∙ append_assoc p2 (O c) (O d) ∙ append_assoc p1 (O b) (O c ++ O d) ∙ ap (λ (l : List ℕ). f ∷ l) (sym (octets-words (a ∷ b ∷ c ∷ d ∷ []) ∙ ap (λ (l : List ℕ). O a ++ (O b ++ (O c ++ l))) (append-nil (O d))))
