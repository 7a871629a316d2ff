-- Laws of bits, fields and octets.
use Rattle.std.proofs.Common.{◌≡◌, ℕ, zero, suc, ◌+◌, ◌-◌, ◌*◌, ◌/◌, ◌%◌, ◌^◌, ◌<◌, ◌≤◌, List, ◌∷◌, ◌++◌, length, take, drop, sym, refl, ap, ◌∙◌, ap₂, add-zero, add-suc, mod-eq_of_lt, suc-add, zero-add, div-one, arith}
use Rattle.std.proofs.lemmas.Nat.{shr-shr, field_of, mod-pow-add, mod_low, shr_high}
use Rattle.std.proofs.lemmas.List.{take_at, drop_at}
use Rattle.bits.specs.Bits.{bit, field, number}

pub length-field : (x i n : ℕ) → length (field x i n) ≡ n
unfolding field
length-field x i zero = refl
length-field x i (suc n) = ap suc (length-field x (suc i) n)

pub field-append : (x i m n : ℕ) → field x i (m + n) ≡ field x i m ++ field x (i + m) n
unfolding field
field-append x i zero n = rw (zero-add, add-zero)
field-append x i (suc m) n = rw suc-add (ap (λ (bs : List ℕ). bit x i ∷ bs) (field-append x (suc i) m n ∙ ap (λ (k : ℕ). field x (suc i) m ++ field x k n) (omega arith)))

-- a shifted number's bits
pub field_shift : (x k i n : ℕ) → field (x / 2 ^ k) i n ≡ field x (k + i) n
unfolding field
field_shift x k i zero = refl
field_shift x k i (suc n) = ap₂ (λ (b : ℕ) (bs : List ℕ). b ∷ bs) (ap (λ (y : ℕ). y % 2) (shr-shr x k i)) (field_shift x k (suc i) n ∙ ap (λ (j : ℕ). field x j n) (add-suc k i))

-- the bits below bit n do not see what stands above
pub bit-mod : (x n i : ℕ) → i < n → bit (x % 2 ^ n) i ≡ bit x i
bit-mod x n i l =
    let e : n ≡ (n - i) + i = omega arith in
    let j : n - i ≡ (n - i - 1) + 1 = omega arith in
    ap (λ (m : ℕ). x % 2 ^ m / 2 ^ i % 2) e ∙ ap (λ (y : ℕ). y % 2) (field_of x (n - i) i)
    ∙ ap (λ (m : ℕ). x / 2 ^ i % 2 ^ m % 2) j ∙ ap (λ (y : ℕ). y % 2) (mod-pow-add (x / 2 ^ i) (n - i - 1) 1)
    ∙ omega arith

pub field-mod : (x k i n : ℕ) → i + n ≤ k → field (x % 2 ^ k) i n ≡ field x i n
unfolding field
field-mod x k i zero l = refl
field-mod x k i (suc n) l = ap₂ (λ (b : ℕ) (bs : List ℕ). b ∷ bs) (bit-mod x k i (omega arith)) (field-mod x k (suc i) n (omega arith))

pub field_low : (a k x i n : ℕ) → x < 2 ^ k → i + n ≤ k → field (a * 2 ^ k + x) i n ≡ field x i n
field_low a k x i n h l = sym (field-mod (a * 2 ^ k + x) k i n l) ∙ ap (λ (y : ℕ). field y i n) (mod_low a k x h)

pub field_high : (a k x i n : ℕ) → x < 2 ^ k → field (a * 2 ^ k + x) (k + i) n ≡ field a i n
field_high a k x i n h = sym (field_shift (a * 2 ^ k + x) k i n) ∙ ap (λ (y : ℕ). field y i n) (shr_high a k x h)

-- low bits and high bits one after the other
pub field_join : (a k x n : ℕ) → x < 2 ^ k → field (a * 2 ^ k + x) 0 (k + n) ≡ field x 0 k ++ field a 0 n
field_join a k x n h =
    field-append (a * 2 ^ k + x) 0 k n
    ∙ ap₂ (λ (u v : List ℕ). u ++ v) (field_low a k x 0 k h (omega arith)) (ap (λ (j : ℕ). field (a * 2 ^ k + x) j n) (omega arith) ∙ field_high a k x 0 n h)

pub number-field : (x i n : ℕ) → number (field x i n) ≡ x / 2 ^ i % 2 ^ n
unfolding field number
number-field x i zero = omega arith
number-field x i (suc n) =
    let e : suc n ≡ n + 1 = omega arith in
    let f : suc i ≡ i + 1 = omega arith in
    ap (λ (y : ℕ). bit x i + 2 * y) (number-field x (suc i) n)
    ∙ ap (λ (j : ℕ). bit x i + 2 * (x / 2 ^ j % 2 ^ n)) f
    ∙ ap (λ (y : ℕ). bit x i + 2 * (y % 2 ^ n)) (sym (shr-shr x i 1))
    ∙ omega arith
    ∙ sym (mod-pow-add (x / 2 ^ i) n 1)
    ∙ ap (λ (j : ℕ). x / 2 ^ i % 2 ^ j) (sym e)

pub take-field : (x i m n : ℕ) → take m (field x i (m + n)) ≡ field x i m
take-field x i m n = ap (take m) (field-append x i m n) ∙ take_at (field x i m) (field x (i + m) n) m (length-field x i m)

pub drop-field : (x i m n : ℕ) → drop m (field x i (m + n)) ≡ field x (i + m) n
drop-field x i m n = ap (drop m) (field-append x i m n) ∙ drop_at (field x i m) (field x (i + m) n) m (length-field x i m)

-- one bit in front
pub field_cons : (b x n : ℕ) → b < 2 → field (b + 2 * x) 0 (suc n) ≡ b ∷ field x 0 n
unfolding field
field_cons b x n h =
    let e : b + 2 * x ≡ x * 2 ^ 1 + b = omega arith in
    ap₂ (λ (c : ℕ) (bs : List ℕ). c ∷ bs) (omega arith) (ap (λ (y : ℕ). field y 1 n) e ∙ field_high x 1 b 0 n h)

pub number-whole : (x n : ℕ) → x < 2 ^ n → number (field x 0 n) ≡ x
number-whole x n h = number-field x 0 n ∙ ap (λ (y : ℕ). y % 2 ^ n) (div-one x) ∙ mod-eq_of_lt h
