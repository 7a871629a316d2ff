-- Octets and the 64 bits of eight of them.
use Rattle.std.proofs.Common.{◌≡◌, ℕ, zero, suc, ◌+◌, ◌-◌, ◌*◌, ◌/◌, ◌%◌, ◌^◌, ◌<◌, ◌≤◌, List, [], ◌∷◌, ◌++◌, length, get_or, take, drop, sym, refl, ap, ◌∙◌, ap₂, append_assoc, suc-add, zero-add, arith, length-drop}
use borrow.Rule.Slice.PartMut.{put_mid}
use Rattle.std.specs.Int.{from_le_bytes}
use mir.Syntax.{w64}
use Rattle.std.proofs.lemmas.List.{take_at, drop_at, drop-drop, take-append-le, drop-append-le, take-append-drop}
use Rattle.bits.specs.Bits.{field, number, octet_bits, octets}
use Rattle.bits.proofs.Fields.{field_join, number-field, take-field, drop-field}

empty : (x : ℕ) → field x 0 0 ≡ []
unfolding field
empty x = refl

-- eight octets, the first lowest
pub le_bits : (a b c d e f g h : ℕ) → a < 256 → b < 256 → c < 256 → d < 256 → e < 256 → f < 256 → g < 256 → h < 256 →
    field (a + b * 256 + c * 65536 + d * 16777216 + e * 4294967296 + f * 1099511627776 + g * 281474976710656 + h * 72057594037927936) 0 64 ≡ octet_bits (a ∷ b ∷ c ∷ d ∷ e ∷ f ∷ g ∷ h ∷ [])
unfolding octet_bits
le_bits a b c d e f g h ha hb hc hd he hf hg hh =
    let n7 : ℕ = 0 * 2 ^ 8 + h in
    let n6 : ℕ = n7 * 2 ^ 8 + g in
    let n5 : ℕ = n6 * 2 ^ 8 + f in
    let n4 : ℕ = n5 * 2 ^ 8 + e in
    let n3 : ℕ = n4 * 2 ^ 8 + d in
    let n2 : ℕ = n3 * 2 ^ 8 + c in
    let n1 : ℕ = n2 * 2 ^ 8 + b in
    let whole : a + b * 256 + c * 65536 + d * 16777216 + e * 4294967296 + f * 1099511627776 + g * 281474976710656 + h * 72057594037927936 ≡ n1 * 2 ^ 8 + a = omega arith in
    ap (λ (x : ℕ). field x 0 64) whole
    ∙ field_join n1 8 a 56 ha ∙ ap (λ (l : List ℕ). field a 0 8 ++ l) (
    field_join n2 8 b 48 hb ∙ ap (λ (l : List ℕ). field b 0 8 ++ l) (
    field_join n3 8 c 40 hc ∙ ap (λ (l : List ℕ). field c 0 8 ++ l) (
    field_join n4 8 d 32 hd ∙ ap (λ (l : List ℕ). field d 0 8 ++ l) (
    field_join n5 8 e 24 he ∙ ap (λ (l : List ℕ). field e 0 8 ++ l) (
    field_join n6 8 f 16 hf ∙ ap (λ (l : List ℕ). field f 0 8 ++ l) (
    field_join n7 8 g 8 hg ∙ ap (λ (l : List ℕ). field g 0 8 ++ l) (
    field_join 0 8 h 0 hh ∙ ap (λ (l : List ℕ). field h 0 8 ++ l) (empty 0))))))))

pub le_octets : (xs : List ℕ) → length xs ≡ 8 → ((i : ℕ) → get_or xs i 0 < 256) → field (from_le_bytes w64 xs) 0 64 ≡ octet_bits xs
le_octets (a ∷ b ∷ c ∷ d ∷ e ∷ f ∷ g ∷ h ∷ []) n small = le_bits a b c d e f g h (small 0) (small 1) (small 2) (small 3) (small 4) (small 5) (small 6) (small 7)
le_octets (a ∷ b ∷ c ∷ d ∷ e ∷ f ∷ g ∷ h ∷ x ∷ xs) n small = absurd (omega arith)
le_octets (a ∷ b ∷ c ∷ d ∷ e ∷ f ∷ g ∷ []) n small = absurd (omega arith)
le_octets (a ∷ b ∷ c ∷ d ∷ e ∷ f ∷ []) n small = absurd (omega arith)
le_octets (a ∷ b ∷ c ∷ d ∷ e ∷ []) n small = absurd (omega arith)
le_octets (a ∷ b ∷ c ∷ d ∷ []) n small = absurd (omega arith)
le_octets (a ∷ b ∷ c ∷ []) n small = absurd (omega arith)
le_octets (a ∷ b ∷ []) n small = absurd (omega arith)
le_octets (a ∷ []) n small = absurd (omega arith)
le_octets [] n small = absurd (omega arith)

-- octets of a number
le_list : ℕ → ℕ → ℕ → List ℕ
le_list zero i x = []
le_list (suc n) i x = (x / 2 ^ i % 256) ∷ le_list n (i + 8) x

octets-field : (n i x : ℕ) → octets n (field x i (8 * n)) ≡ le_list n i x
unfolding octets le_list
octets-field zero i x = refl
octets-field (suc n) i x =
    let e : 8 * suc n ≡ 8 + 8 * n = omega arith in
    rw e (ap₂ (λ (b : ℕ) (l : List ℕ). b ∷ l)
    (ap number (take-field x i 8 (8 * n)) ∙ number-field x i 8)
    (ap (octets n) (drop-field x i 8 (8 * n)) ∙ octets-field n (i + 8) x))

pub eight_octets : (x : ℕ) → octets 8 (field x 0 64) ≡
    (x % 256) ∷ (x / 256 % 256) ∷ (x / 65536 % 256) ∷ (x / 16777216 % 256) ∷ (x / 4294967296 % 256) ∷ (x / 1099511627776 % 256) ∷ (x / 281474976710656 % 256) ∷ (x / 72057594037927936 % 256) ∷ []
unfolding le_list
eight_octets x =
    let z : x / 1 % 256 ≡ x % 256 = omega arith in
    octets-field 8 0 x ∙ ap (λ (y : ℕ). y ∷ le_list 7 8 x) z

-- what a part of a slice that was written over is
pub put_at : (xs ys : List ℕ) (at n : ℕ) → put_mid at (at + n - at) xs ys ≡ take at xs ++ (ys ++ drop (at + n) xs)
put_at xs ys at n =
    let e : at + n - at ≡ n = omega arith in
    ap (λ (k : ℕ). put_mid at k xs ys) e ∙ ap (λ (zs : List ℕ). take at xs ++ (ys ++ zs)) (drop-drop n at xs)

pub length-octets : (n : ℕ) (bs : List ℕ) → length (octets n bs) ≡ n
unfolding octets
length-octets zero bs = refl
length-octets (suc n) bs = ap suc (length-octets n (drop 8 bs))

-- octets of bits one after another
pub octets-append : (m n : ℕ) (xs ys : List ℕ) → length xs ≡ 8 * m → octets (m + n) (xs ++ ys) ≡ octets m xs ++ octets n ys
unfolding octets
octets-append zero n [] ys h = rw zero-add
octets-append zero n (x ∷ xs) ys h = absurd (omega arith)
octets-append (suc m) n xs ys h =
    let l : 8 ≤ length xs = omega arith in
    let k : length (drop 8 xs) ≡ 8 * m = length-drop 8 xs ∙ omega arith in
    rw suc-add (ap₂ (λ (b : ℕ) (zs : List ℕ). b ∷ zs) (ap number (take-append-le 8 xs ys l)) (ap (octets (m + n)) (drop-append-le 8 xs ys l) ∙ octets-append m n (drop 8 xs) ys k))

-- k octets more, written behind those of p
pub put_more : (k : ℕ) (p o xs ys new : List ℕ) (n : ℕ) → length p ≡ n → ys ≡ p ++ drop n xs → new ≡ take n ys ++ (o ++ drop (n + k) ys) → new ≡ (p ++ o) ++ drop (n + k) xs
put_more k p o xs ys new n h e f =
    let back : drop (n + k) ys ≡ drop (n + k) xs = sym (drop-drop k n ys) ∙ ap (drop k) (ap (drop n) e ∙ drop_at p (drop n xs) n h) ∙ drop-drop k n xs in
    f ∙ ap₂ (λ (u v : List ℕ). u ++ (o ++ v)) (ap (take n) e ∙ take_at p (drop n xs) n h) back ∙ sym (append_assoc p o (drop (n + k) xs))

octet_bits-append : (xs ys : List ℕ) → octet_bits (xs ++ ys) ≡ octet_bits xs ++ octet_bits ys
unfolding octet_bits
octet_bits-append [] ys = refl
octet_bits-append (x ∷ xs) ys = ap (λ (l : List ℕ). field x 0 8 ++ l) (octet_bits-append xs ys) ∙ sym (append_assoc (field x 0 8) (octet_bits xs) (octet_bits ys))

-- eight octets, and those behind them
pub octet_bits_next : (xs : List ℕ) (n : ℕ) → octet_bits (drop n xs) ≡ octet_bits (take 8 (drop n xs)) ++ octet_bits (drop (n + 8) xs)
octet_bits_next xs n =
    ap octet_bits (sym (take-append-drop 8 (drop n xs)) ∙ ap (λ (l : List ℕ). take 8 (drop n xs) ++ l) (drop-drop 8 n xs))
    ∙ octet_bits-append (take 8 (drop n xs)) (drop (n + 8) xs)

pub octet_bits-none : octet_bits [] ≡ []
unfolding octet_bits
octet_bits-none = refl
