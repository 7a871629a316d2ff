-- Each nibble folded to one bit and the bits counted: the nibbles that differ.
use Rattle.std.proofs.Common.{◌≡◌, ℕ, suc, ◌+◌, ◌*◌, ◌/◌, ◌%◌, ◌^◌, ◌<◌, Bool, true, false, cond, eqb, List, [], ◌∷◌, ◌++◌, sym, refl, ap, ◌∙◌, ap₂, mod-lt, zero-lt-suc, add_comm, div-add-mod', arith}
use lib.Bits.{bit_and, bit_or, bit_xor, and_shr, or_shr, xor_shr, and_mod, or_mod, xor_mod, and_zero_r}
use lib.Count.{ones, ones_in, ones_cat}
use Rattle.std.proofs.lemmas.Nat.{shr-shr, and_mask}
use Rattle.std.proofs.lemmas.Bool.{eqb-true}
use Rattle.std.proofs.lemmas.Bool.Decides.{nat_tests}
use Rattle.lanes.specs.Folds.{folded, octets_of, lowest_bits}
use Rattle.lanes.specs.Markers.{nibble, unequal, wrong}
use Rattle.bits.proofs.Every.{every_two_at}
use Rattle.lanes.specs.declared.marker.Part.{Part}
use Rattle.lanes.specs.declared.marker.Part.TheVariants.{Shared, Own}

div_swap : (n j k : ℕ) → n / 2 ^ j / 2 ^ k ≡ n / 2 ^ k / 2 ^ j
div_swap n j k = grind (arith, shr-shr, add_comm)

pairs_shr : (x : ℕ) → bit_or x (x / 2) / 16 ≡ bit_or (x / 16) (x / 16 / 2)
pairs_shr x = rw (or_shr x (x / 2) 4, div_swap x 1 4) refl

-- the nibbles above the lowest are folded as they are without it
folded_shr : (x : ℕ) → folded x / 16 ≡ folded (x / 16)
folded_shr x =
    or_shr (bit_or x (x / 2)) (bit_or x (x / 2) / 4) 4
    ∙ ap₂ bit_or (pairs_shr x) (div_swap (bit_or x (x / 2)) 2 4 ∙ ap (λ (e : ℕ). e / 4) (pairs_shr x))

some_bit : ℕ → ℕ → ℕ → ℕ → ℕ
some_bit a b c d = bit_or (bit_or a b) (bit_or c d)

folded-bit : (x : ℕ) → folded x % 2 ≡ some_bit (x % 2) (x / 2 % 2) (x / 4 % 2) (x / 8 % 2)
unfolding some_bit
folded-bit x =
    or_mod (bit_or x (x / 2)) (bit_or x (x / 2) / 4) 1
    ∙ ap₂ bit_or (or_mod x (x / 2) 1)
    (ap (λ (e : ℕ). e % 2) (or_shr x (x / 2) 2) ∙ or_mod (x / 4) (x / 2 / 4) 1 ∙ ap (λ (e : ℕ). bit_or (x / 4 % 2) (e % 2)) (shr-shr x 1 2))

-- the lowest nibble by itself
folded_low : (x : ℕ) → folded x % 2 ≡ folded (x % 16) % 2
folded_low x =
    let a : x % 16 % 2 ≡ x % 2 = omega arith in
    let b : x % 16 / 2 % 2 ≡ x / 2 % 2 = omega arith in
    let c : x % 16 / 4 % 2 ≡ x / 4 % 2 = omega arith in
    let d : x % 16 / 8 % 2 ≡ x / 8 % 2 = omega arith in
    folded-bit x ∙ (rw (← a, ← b, ← c, ← d) refl) ∙ sym (folded-bit (x % 16))

abbrev tells_apart : ℕ → ℕ → Bool
tells_apart a b = eqb (folded (bit_xor a b) % 2) (unequal a b)

one_nibble : (a b : ℕ) → a < 16 → b < 16 → folded (bit_xor a b) % 2 ≡ unequal a b
one_nibble a b h k = eqb-true _ _ (every_two_at tells_apart 16 refl a b h k)

-- the mask that has the lowest bit of each counted nibble, and the count of those nibbles from j on
unfoldable mask : List Bool → ℕ
mask [] = 0
mask (s ∷ ss) = mask ss * 16 + cond s 1 0

unfoldable counted : List Bool → ℕ → (ℕ → ℕ) → ℕ
counted [] j u = 0
counted (s ∷ ss) j u = cond s (u j) 0 + counted ss (suc j) u

ones-unequal : (s : Bool) (a b : ℕ) → ones (cond s (unequal a b) 0) ≡ cond s (unequal a b) 0
unfolding ones ones_in
ones-unequal s a b = grind (arith, nat_tests)

low : (s : Bool) (w m k : ℕ) → bit_and (folded (bit_xor w m)) (k * 16 + cond s 1 0) % 16 ≡ cond s (unequal (w % 16) (m % 16)) 0
low false w m k =
    let e : (k * 16 + 0) % 16 ≡ 0 = omega arith in
    and_mod (folded (bit_xor w m)) (k * 16 + 0) 4 ∙ ap (λ (x : ℕ). bit_and (folded (bit_xor w m) % 16) x) e ∙ and_zero_r _
low true w m k =
    let e : (k * 16 + 1) % 16 ≡ 1 = omega arith in
    let f : folded (bit_xor w m) % 16 % 2 ≡ folded (bit_xor w m) % 2 = omega arith in
    and_mod (folded (bit_xor w m)) (k * 16 + 1) 4 ∙ ap (λ (x : ℕ). bit_and (folded (bit_xor w m) % 16) x) e
    ∙ and_mask (folded (bit_xor w m) % 16) 1 ∙ f
    ∙ folded_low (bit_xor w m) ∙ ap (λ (x : ℕ). folded x % 2) (xor_mod w m 4)
    ∙ one_nibble (w % 16) (m % 16) (mod-lt w (zero-lt-suc 15)) (mod-lt m (zero-lt-suc 15))

high : (s : Bool) (w m k : ℕ) → bit_and (folded (bit_xor w m)) (k * 16 + cond s 1 0) / 16 ≡ bit_and (folded (bit_xor (w / 16) (m / 16))) k
high s w m k =
    let e : (k * 16 + cond s 1 0) / 16 ≡ k = elim s as (λ t. (k * 16 + cond t 1 0) / 16 ≡ k) [ true ↦ omega arith | false ↦ omega arith ] in
    and_shr (folded (bit_xor w m)) (k * 16 + cond s 1 0) 4
    ∙ ap₂ bit_and (folded_shr (bit_xor w m) ∙ ap folded (xor_shr w m 4)) e

next_nibble : (w j : ℕ) → w / 2 ^ (4 * j) / 16 ≡ w / 2 ^ (4 * suc j)
next_nibble w j =
    let e : 4 * j + 4 ≡ 4 * suc j = omega arith in
    shr-shr w (4 * j) 4 ∙ ap (λ (k : ℕ). w / 2 ^ k) e

-- for any mask: what is counted are the nibbles that differ
counts : (ss : List Bool) (j w m : ℕ) →
    ones (bit_and (folded (bit_xor (w / 2 ^ (4 * j)) (m / 2 ^ (4 * j)))) (mask ss)) ≡ counted ss j (λ i. unequal (nibble w i) (nibble m i))
unfolding counted mask
counts [] j w m = ap ones (and_zero_r (folded (bit_xor (w / 2 ^ (4 * j)) (m / 2 ^ (4 * j))))) ∙ ones-unequal false 0 0
counts (s ∷ ss) j w m =
    let v = w / 2 ^ (4 * j) in
    let n = m / 2 ^ (4 * j) in
    let z = bit_and (folded (bit_xor v n)) (mask ss * 16 + cond s 1 0) in
    ap ones (sym (div-add-mod' z 16))
    ∙ ones_cat 4 (z / 16) (z % 16) (mod-lt z (zero-lt-suc 15))
    ∙ ap₂ (λ (x y : ℕ). ones x + ones y)
    (high s v n (mask ss) ∙ ap₂ (λ (x y : ℕ). bit_and (folded (bit_xor x y)) (mask ss)) (next_nibble w j) (next_nibble m j)) (low s v n (mask ss))
    ∙ ap₂ (λ (x y : ℕ). x + y) (counts ss (suc j) w m) (ones-unequal s (v % 16) (n % 16))
    ∙ add_comm (counted ss (suc j) (λ i. unequal (nibble w i) (nibble m i))) _

abbrev six : List Bool
six = true ∷ true ∷ true ∷ true ∷ true ∷ true ∷ []

abbrev two : List Bool
two = false ∷ false ∷ []

-- the nibbles of a part, from nibble 0 on
abbrev counted_in : Part → List Bool
counted_in Shared = six ++ two ++ six
counted_in Own = two ++ two ++ two ++ two ++ two ++ two ++ two ++ two ++ six ++ two ++ six

from_zero : (x : ℕ) → x / 2 ^ (4 * 0) ≡ x
from_zero x = omega arith

by_mask : (ss : List Bool) (w m : ℕ) → ones (bit_and (folded (bit_xor w m)) (mask ss)) ≡ counted ss 0 (λ i. unequal (nibble w i) (nibble m i))
by_mask ss w m = ap₂ (λ (x y : ℕ). ones (bit_and (folded (bit_xor x y)) (mask ss))) (sym (from_zero w)) (sym (from_zero m)) ∙ counts ss 0 w m

-- the same sums
regrouped : (p : Part) (v w : ℕ → ℕ) → counted (counted_in p) 0 (λ i. unequal (v i) (w i)) ≡ wrong v w (octets_of p)
unfolding counted wrong
regrouped Shared v w = omega arith
regrouped Own v w = omega arith

pub part_counted : (p : Part) (w m : ℕ) → ones (bit_and (folded (bit_xor w m)) (lowest_bits (octets_of p))) ≡ wrong (nibble w) (nibble m) (octets_of p)
unfolding mask
part_counted Shared w m = by_mask (counted_in Shared) w m ∙ regrouped Shared (nibble w) (nibble m)
part_counted Own w m = by_mask (counted_in Own) w m ∙ regrouped Own (nibble w) (nibble m)
