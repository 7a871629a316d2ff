-- Numbers and octets of bits give them back, and bits of octets the octets.
use Rattle.std.proofs.Common.{◌≡◌, ℕ, zero, suc, ◌+◌, ◌*◌, ◌^◌, ◌<◌, List, [], ◌∷◌, ◌++◌, length, take, drop, refl, ap, ◌∙◌, ap₂, arith, length-append, length-drop}
use native.Mathlib.Nat.{pow-succ'}
use Rattle.std.proofs.lemmas.List.{take_at, drop_at, take-append-drop, length-take-le}
use Rattle.std.proofs.lemmas.Nat.{pow_pos}
use Rattle.bits.specs.Bits.{field, number, octet_bits, octets, Binary, Octets}
use Rattle.bits.proofs.Fields.{length-field, field_cons, number-whole}
use Rattle.bits.proofs.Binary.{binary_none, binary_append, binary_take, binary_drop, binary_field}

pub field-number : (bs : List ℕ) (n : ℕ) → Binary bs → length bs ≡ n → field (number bs) 0 n ≡ bs
unfolding number field
field-number [] zero b e = refl
field-number [] (suc n) b e = absurd (omega arith)
field-number (x ∷ bs) zero b e = absurd (omega arith)
field-number (x ∷ bs) (suc n) b e = field_cons x (number bs) n (b 0) ∙ ap (λ (l : List ℕ). x ∷ l) (field-number bs n (λ i. b (suc i)) (omega arith))

pub number_small : (n : ℕ) (bs : List ℕ) → Binary bs → number (take n bs) < 2 ^ n
unfolding number
number_small zero bs b = omega arith
number_small (suc n) [] b = pow_pos (suc n)
number_small (suc n) (x ∷ bs) b = let h = number_small n bs (λ i. b (suc i)) in let k = b 0 in rw pow-succ' (omega arith)

pub bits_of-octets : (n : ℕ) (bs : List ℕ) → Binary bs → length bs ≡ 8 * n → octet_bits (octets n bs) ≡ bs
unfolding octets octet_bits
bits_of-octets zero [] b e = refl
bits_of-octets zero (x ∷ bs) b e = absurd (omega arith)
bits_of-octets (suc n) bs b e =
    ap₂ (λ (u v : List ℕ). u ++ v) (field-number (take 8 bs) 8 (binary_take 8 bs b) (length-take-le 8 bs (omega arith)))
    (bits_of-octets n (drop 8 bs) (binary_drop 8 bs b) (length-drop 8 bs ∙ omega arith))
    ∙ take-append-drop 8 bs

pub length-octet_bits : (xs : List ℕ) → length (octet_bits xs) ≡ 8 * length xs
unfolding octet_bits
length-octet_bits [] = refl
length-octet_bits (x ∷ xs) = length-append (field x 0 8) (octet_bits xs) ∙ ap₂ (λ (i j : ℕ). i + j) (length-field x 0 8) (length-octet_bits xs) ∙ omega arith

pub binary_octets : (xs : List ℕ) → Binary (octet_bits xs)
unfolding octet_bits
binary_octets [] = binary_none
binary_octets (x ∷ xs) = binary_append (field x 0 8) (octet_bits xs) (binary_field x 0 8) (binary_octets xs)

pub octets_of-bits : (xs : List ℕ) → Octets xs → octets (length xs) (octet_bits xs) ≡ xs
unfolding octets octet_bits
octets_of-bits [] o = refl
octets_of-bits (x ∷ xs) o =
    ap₂ (λ (y : ℕ) (l : List ℕ). y ∷ l)
    (ap number (take_at (field x 0 8) (octet_bits xs) 8 (length-field x 0 8)) ∙ number-whole x 8 (o 0))
    (ap (octets (length xs)) (drop_at (field x 0 8) (octet_bits xs) 8 (length-field x 0 8)) ∙ octets_of-bits xs (λ i. o (suc i)))
