-- Scrambling by words of 64 bits: output y and memory m as one number, the memory's 58 bits lowest.
use Rattle.std.proofs.Common.{◌≡◌, ℕ, zero, suc, ◌+◌, ◌-◌, ◌*◌, ◌/◌, ◌%◌, ◌^◌, ◌<◌, ◌≤◌, Bool, true, false, List, [], ◌∷◌, sym, refl, ap, ◌∙◌, subst, ap₂, inl, inr, add-zero, add-suc, mul_assoc, mul_comm, suc-add, zero-add, div-one, one-add, arith}
use native.Mathlib.Nat.{mul-mod_left}
use lib.Bits.{bit_xor, xor_assoc, xor_comm, xor_zero_r, xor_shr, xor_mod, xor_shifted, xor_block}
use Rattle.std.proofs.lemmas.Nat.{shr-shr, pow-add, pow_pos, shl-shr, mod_low, shr_high, mul-mod_first}
use Rattle.std.specs.Int.{reverse_bits_onto}
use Rattle.std.proofs.lemmas.Bool.{cases_lt}
use Rattle.bits.specs.Bits.{bit, field, table, nth}
use Rattle.blocks.specs.Scrambled.{tapped, pushed, stream_bits, stream_after, what_came_in, what_went_out, scrambled_bits, scrambler_after, descrambled_bits, descrambler_after, memory_in}
use Rattle.blocks.specs.Groups.{one_if}
use Rattle.blocks.specs.Taps.{tail, taps}
use Rattle.bits.proofs.Fields.{bit-mod}
use Rattle.blocks.proofs.Scrambles.{cancel}
use Rattle.bits.proofs.Tables.{table_same, nth-table, take-table, table-suc, field-table}

-- bits of a number
pub bit-bit_xor : (a b i : ℕ) → bit (bit_xor a b) i ≡ bit_xor (bit a i) (bit b i)
bit-bit_xor a b i = ap (λ (y : ℕ). y % 2) (xor_shr a b i) ∙ xor_mod (a / 2 ^ i) (b / 2 ^ i) 1

pub bit_shr : (x k i : ℕ) → bit (x / 2 ^ k) i ≡ bit x (k + i)
bit_shr x k i = ap (λ (y : ℕ). y % 2) (shr-shr x k i)

-- memory and output as one number
abbrev pub history : ℕ → ℕ → ℕ
history m y = y * 2 ^ 58 + m

pub output_bit : (m y i : ℕ) → m < 2 ^ 58 → bit (history m y) (58 + i) ≡ bit y i
output_bit m y i h = sym (bit_shr (history m y) 58 i) ∙ ap (λ (z : ℕ). bit z i) (shr_high y 58 m h)

pub memory_bit : (m y i : ℕ) → m < 2 ^ 58 → i < 58 → bit (history m y) i ≡ bit m i
memory_bit m y i h l = sym (bit-mod (history m y) 58 i l) ∙ ap (λ (z : ℕ). bit z i) (mod_low y 58 m h)

history_xor : (m y : ℕ) → m < 2 ^ 58 → history m y ≡ bit_xor (y * 2 ^ 58) m
history_xor m y h = sym (xor_shifted y 58 m h)

history_bit : (m y i : ℕ) → m < 2 ^ 58 → bit (history m y) i ≡ bit_xor (bit (y * 2 ^ 58) i) (bit m i)
history_bit m y i h = ap (λ (z : ℕ). bit z i) (history_xor m y h) ∙ bit-bit_xor (y * 2 ^ 58) m i

shl_part : (y : ℕ) → y * 2 ^ 58 / 2 ^ 19 ≡ y * 2 ^ 39
shl_part y = ap (λ (z : ℕ). z / 2 ^ 19) (sym (mul_assoc y (2 ^ 39) (2 ^ 19))) ∙ shl-shr (y * 2 ^ 39) 19

history_tap : (m y i : ℕ) → m < 2 ^ 58 → bit (history m y) (19 + i) ≡ bit_xor (bit (y * 2 ^ 39) i) (bit (m / 2 ^ 19) i)
history_tap m y i h =
    sym (bit_shr (history m y) 19 i)
    ∙ ap (λ (z : ℕ). bit (z / 2 ^ 19) i) (history_xor m y h)
    ∙ ap (λ (z : ℕ). bit z i) (xor_shr (y * 2 ^ 58) m 19 ∙ ap (λ (z : ℕ). bit_xor z (m / 2 ^ 19)) (shl_part y))
    ∙ bit-bit_xor (y * 2 ^ 39) (m / 2 ^ 19) i

-- exclusive or
medial : (p q r s : ℕ) → bit_xor (bit_xor p q) (bit_xor r s) ≡ bit_xor (bit_xor p r) (bit_xor q s)
medial p q r s =
    xor_assoc p q (bit_xor r s)
    ∙ ap (bit_xor p) (sym (xor_assoc q r s) ∙ ap (λ (x : ℕ). bit_xor x s) (xor_comm q r) ∙ xor_assoc r q s)
    ∙ sym (xor_assoc p r (bit_xor q s))

taps-bit : (x i : ℕ) → i < 64 → bit (taps x) i ≡ bit_xor (bit_xor (bit x i) (bit (x * 2 ^ 39) i)) (bit (x * 2 ^ 58) i)
taps-bit x i l =
    bit-bit_xor (bit_xor x (x * 2 ^ 39 % 2 ^ 64)) (x * 2 ^ 58 % 2 ^ 64) i
    ∙ ap₂ bit_xor (bit-bit_xor x (x * 2 ^ 39 % 2 ^ 64) i ∙ ap (bit_xor (bit x i)) (bit-mod (x * 2 ^ 39) 64 i l)) (bit-mod (x * 2 ^ 58) 64 i l)

-- what reading back gives for a received word
pub back_bit : (m y i : ℕ) → m < 2 ^ 58 → i < 64 →
    bit (bit_xor (taps y) (tail m)) i ≡ bit_xor (bit y i) (bit_xor (bit (history m y) (19 + i)) (bit (history m y) i))
back_bit m y i h l =
    let Y = bit y i in
    let a = bit (y * 2 ^ 39) i in
    let b = bit (y * 2 ^ 58) i in
    let c = bit m i in
    let d = bit (m / 2 ^ 19) i in
    bit-bit_xor (taps y) (tail m) i
    ∙ ap₂ bit_xor (taps-bit y i l ∙ xor_assoc Y a b) (bit-bit_xor m (m / 2 ^ 19) i ∙ xor_comm c d)
    ∙ xor_assoc Y (bit_xor a b) (bit_xor d c)
    ∙ ap (bit_xor Y) (medial a b d c ∙ ap₂ bit_xor (sym (history_tap m y i h)) (sym (history_bit m y i h)))

-- shifting a word, with what leaves it lost
shifted : ℕ → ℕ → ℕ
shifted k x = x * 2 ^ k % 2 ^ 64

shifted_xor : (k a b : ℕ) → shifted k (bit_xor a b) ≡ bit_xor (shifted k a) (shifted k b)
unfolding shifted
shifted_xor k a b =
    let pos : 0 < 2 ^ k = pow_pos k in
    let e : bit_xor (a * 2 ^ k) (b * 2 ^ k) ≡ bit_xor a b * 2 ^ k =
    ap₂ bit_xor (sym (add-zero (a * 2 ^ k))) (sym (add-zero (b * 2 ^ k))) ∙ xor_block k a b 0 0 pos pos ∙ add-zero (bit_xor a b * 2 ^ k) in
    ap (λ (z : ℕ). z % 2 ^ 64) (sym e) ∙ xor_mod (a * 2 ^ k) (b * 2 ^ k) 64

shifted_out : (j k x : ℕ) → 64 ≤ j + k → shifted j (shifted k x) ≡ 0
unfolding shifted
shifted_out j k x l =
    let e : j + k ≡ (j + k - 64) + 64 = omega arith in
    mul-mod_first (x * 2 ^ k) (2 ^ j) (2 ^ 64)
    ∙ ap (λ (z : ℕ). z % 2 ^ 64) (mul_assoc x (2 ^ k) (2 ^ j) ∙ ap (λ (z : ℕ). x * z) (mul_comm (2 ^ k) (2 ^ j) ∙ sym (pow-add 2 j k) ∙ ap (λ (z : ℕ). 2 ^ z) e ∙ pow-add 2 (j + k - 64) 64) ∙ sym (mul_assoc x (2 ^ (j + k - 64)) (2 ^ 64)))
    ∙ mul-mod_left (x * 2 ^ (j + k - 64)) (2 ^ 64)

cancel_both : (t u a b : ℕ) → t ≡ bit_xor (bit_xor u a) b → bit_xor (bit_xor t a) b ≡ u
cancel_both t u a b e =
    ap (λ (z : ℕ). bit_xor (bit_xor z a) b) (e ∙ xor_assoc u a b ∙ ap (bit_xor u) (xor_comm a b) ∙ sym (xor_assoc u b a)) ∙ ap (λ (z : ℕ). bit_xor z b) (cancel (bit_xor u b) a) ∙ cancel u b

-- twice is not at all
pub taps_twice : (u : ℕ) → taps (taps u) ≡ u
unfolding shifted
taps_twice u =
    let a = shifted 39 u in
    let b = shifted 58 u in
    let t = taps u in
    let kept : (k : ℕ) → 25 ≤ k → shifted k t ≡ shifted k u = λ k l.
    shifted_xor k (bit_xor u a) b ∙ ap₂ bit_xor (shifted_xor k u a ∙ ap (bit_xor (shifted k u)) (shifted_out k 39 u (omega arith)) ∙ xor_zero_r (shifted k u)) (shifted_out k 58 u (omega arith)) ∙ xor_zero_r (shifted k u) in
    ap₂ (λ (p q : ℕ). bit_xor (bit_xor t p) q) (kept 39 (omega arith)) (kept 58 (omega arith)) ∙ cancel_both t u a b refl

-- what scrambling gives for a word
pub out_bit : (m x i : ℕ) → m < 2 ^ 58 → i < 64 →
    let y : ℕ = taps (bit_xor x (tail m)) in bit y i ≡ bit_xor (bit x i) (bit_xor (bit (history m y) (19 + i)) (bit (history m y) i))
out_bit m x i h l =
    let y : ℕ = taps (bit_xor x (tail m)) in
    let w : ℕ = bit_xor (bit (history m y) (19 + i)) (bit (history m y) i) in
    let e : bit_xor (taps y) (tail m) ≡ x = ap (λ (z : ℕ). bit_xor z (tail m)) (taps_twice (bit_xor x (tail m))) ∙ cancel x (tail m) in
    let f : bit_xor (bit y i) w ≡ bit x i = sym (back_bit m y i h l) ∙ ap (λ (z : ℕ). bit z i) e in
    sym (cancel (bit y i) w) ∙ ap (λ (z : ℕ). bit_xor z w) f

-- the memory before bit i of a history
abbrev window : ℕ → ℕ → List ℕ
window h i = table 58 (λ k. bit h (i + 57 - k))

window_nth : (h i k j : ℕ) → k < 58 → j + k ≡ i + 57 → nth (window h i) k ≡ bit h j
window_nth h i k j l e = nth-table 58 (λ k. bit h (i + 57 - k)) k l ∙ ap (bit h) (omega arith)

window_next : (h i : ℕ) → pushed (bit h (58 + i)) (window h i) ≡ window h (suc i)
window_next h i =
    ap₂ (λ (b : ℕ) (l : List ℕ). b ∷ l) (ap (bit h) (omega arith))
    (take-table 57 1 (λ k. bit h (i + 57 - k)) ∙ table_same 57 (λ k. bit h (i + 57 - k)) (λ k. bit h (suc i + 57 - suc k)) (λ k l. ap (bit h) (omega arith)))
    ∙ sym (table-suc 57 (λ k. bit h (suc i + 57 - k)))

-- n bits of x gave those of y, and those of w were remembered
module _ (kept : ℕ → ℕ → ℕ) (m w x y n : ℕ) (small : m < 2 ^ 58)
    (remembers : (i : ℕ) → i < n → kept (bit x i) (bit y i) ≡ bit w i)
    (step : (i : ℕ) → i < n → bit y i ≡ bit_xor (bit x i) (bit_xor (bit (history m w) (19 + i)) (bit (history m w) i)))
  where
    first_window : memory_in m ≡ window (history m w) 0
    first_window = table_same 58 (λ k. bit m (57 - k)) (λ k. bit (history m w) (0 + 57 - k)) (λ k l. sym (memory_bit m w (57 - k) small (omega arith)) ∙ ap (bit (history m w)) (omega arith))

    gives_bit : (i : ℕ) → i < n → tapped (window (history m w) i) (bit x i) ≡ bit y i
    gives_bit i l =
        let h : ℕ = history m w in
        ap₂ (λ (u v : ℕ). bit_xor (bit x i) (bit_xor u v)) (window_nth h i 38 (19 + i) (omega arith) (omega arith)) (window_nth h i 57 i (omega arith) (omega arith)) ∙ sym (step i l)

    leaves_window : (i : ℕ) → i < n → pushed (kept (bit x i) (tapped (window (history m w) i) (bit x i))) (window (history m w) i) ≡ window (history m w) (suc i)
    leaves_window i l =
        let h : ℕ = history m w in
        ap (λ (c : ℕ). pushed (kept (bit x i) c) (window h i)) (gives_bit i l) ∙ ap (λ (c : ℕ). pushed c (window h i)) (remembers i l ∙ sym (output_bit m w i small)) ∙ window_next h i

    bits_from : (j i : ℕ) → i + j ≡ n → stream_bits kept (window (history m w) i) (field x i j) ≡ field y i j
    unfolding stream_bits field
    bits_from zero i e = refl
    bits_from (suc j) i e =
        ap₂ (λ (c : ℕ) (l : List ℕ). c ∷ l) (gives_bit i (omega arith))
        (ap (λ (o : List ℕ). stream_bits kept o (field x (suc i) j)) (leaves_window i (omega arith)) ∙ bits_from j (suc i) (omega arith))

    after_from : (j i : ℕ) → i + j ≡ n → stream_after kept (window (history m w) i) (field x i j) ≡ window (history m w) n
    unfolding stream_after field
    after_from zero i e = ap (window (history m w)) (omega arith)
    after_from (suc j) i e = ap (λ (o : List ℕ). stream_after kept o (field x (suc i) j)) (leaves_window i (omega arith)) ∙ after_from j (suc i) (omega arith)

    pub word_gives : field y 0 n ≡ stream_bits kept (memory_in m) (field x 0 n)
    word_gives = sym (ap (λ (o : List ℕ). stream_bits kept o (field x 0 n)) first_window ∙ bits_from n 0 (omega arith))

    pub word_leaves : (m' : ℕ) → ((k : ℕ) → k < 58 → bit m' (57 - k) ≡ bit (history m w) (57 + n - k)) → memory_in m' ≡ stream_after kept (memory_in m) (field x 0 n)
    word_leaves m' e =
        table_same 58 (λ k. bit m' (57 - k)) (λ k. bit (history m w) (n + 57 - k)) (λ k l. e k l ∙ ap (bit (history m w)) (omega arith))
        ∙ sym (ap (λ (o : List ℕ). stream_after kept o (field x 0 n)) first_window ∙ after_from n 0 (omega arith))

-- the memory behind a word of 64 bits, and behind one bit
pub memory_64 : (m y k : ℕ) → m < 2 ^ 58 → k < 58 → bit (y / 2 ^ 6) (57 - k) ≡ bit (history m y) (57 + 64 - k)
memory_64 m y k h l =
    let e : 58 + (63 - k) ≡ 57 + 64 - k = omega arith in
    let f : 6 + (57 - k) ≡ 63 - k = omega arith in
    bit_shr y 6 (57 - k) ∙ ap (bit y) f ∙ sym (output_bit m y (63 - k) h) ∙ ap (bit (history m y)) e

pub memory_1 : (m y k : ℕ) → k < 58 → bit (m / 2 + y * 2 ^ 57) (57 - k) ≡ bit (history m y) (57 + 1 - k)
memory_1 m y k l =
    let e : m / 2 + y * 2 ^ 57 ≡ history m y / 2 ^ 1 = omega arith in
    let f : 1 + (57 - k) ≡ 57 + 1 - k = omega arith in
    ap (λ (z : ℕ). bit z (57 - k)) e ∙ bit_shr (history m y) 1 (57 - k) ∙ ap (bit (history m y)) f

-- one bit: it sees the memory alone
one_bit : (m x y w i : ℕ) → m < 2 ^ 58 → i < 1 → y ≡ bit_xor x (tail m) % 2 → bit y i ≡ bit_xor (bit x i) (bit_xor (bit (history m w) (19 + i)) (bit (history m w) i))
one_bit m x y w zero h l e =
    let Y : y / 1 % 2 ≡ y = omega arith in
    let X : bit_xor x (tail m) % 2 ≡ bit_xor (x % 2) (bit_xor (m % 2) (m / 2 ^ 19 % 2)) = xor_mod x (tail m) 1 ∙ ap (bit_xor (x % 2)) (xor_mod m (m / 2 ^ 19) 1) in
    let a : m / 2 ^ 19 % 2 ≡ bit (history m w) 19 = sym (memory_bit m w 19 h (omega arith)) in
    let b : m % 2 ≡ bit (history m w) 0 = ap (λ (z : ℕ). z % 2) (sym (div-one m)) ∙ sym (memory_bit m w 0 h (omega arith)) in
    Y ∙ e ∙ X ∙ ap (bit_xor (x % 2)) (xor_comm (m % 2) (m / 2 ^ 19 % 2) ∙ ap₂ bit_xor a b) ∙ ap (λ (z : ℕ). bit_xor (z % 2) (bit_xor (bit (history m w) 19) (bit (history m w) 0))) (sym (div-one x))
one_bit m x y w (suc i) h l e = absurd (omega arith)

-- a start value, whose lowest bit is the newest, as a memory
bit_cons : (a b i : ℕ) → b < 2 → bit (a * 2 + b) (suc i) ≡ bit a i
bit_cons a b i h =
    let e : (a * 2 + b) / 2 ^ 1 ≡ a = omega arith in
    ap (bit (a * 2 + b)) (sym (one-add i)) ∙ sym (bit_shr (a * 2 + b) 1 i) ∙ ap (λ (z : ℕ). bit z i) e

reversed_high : (n x a i : ℕ) → bit (reverse_bits_onto n x a) (n + i) ≡ bit a i
unfolding reverse_bits_onto
reversed_high zero x a i = ap (bit a) (zero-add i)
reversed_high (suc n) x a i =
    let b : x % 2 < 2 = omega arith in
    ap (bit (reverse_bits_onto n (x / 2) (a * 2 + x % 2))) (suc-add n i ∙ sym (add-suc n i)) ∙ reversed_high n (x / 2) (a * 2 + x % 2) (suc i) ∙ bit_cons a (x % 2) i b

reversed_bit : (n x a i : ℕ) → i < n → bit (reverse_bits_onto n x a) i ≡ bit x (n - 1 - i)
unfolding reverse_bits_onto
reversed_bit zero x a i l = absurd (omega arith)
reversed_bit (suc n) x a i l = elim (cases_lt i n) [
  | inl h ↦ reversed_bit n (x / 2) (a * 2 + x % 2) i h ∙ bit_shr x 1 (n - 1 - i) ∙ ap (bit x) (omega arith)
  | inr h ↦
      let e : i ≡ n + 0 = omega arith in
      let z : suc n - 1 - i ≡ 0 = omega arith in
      let lowest : (a * 2 + x % 2) / 1 % 2 ≡ x / 1 % 2 = omega arith in
      ap (bit (reverse_bits_onto n (x / 2) (a * 2 + x % 2))) e ∙ reversed_high n (x / 2) (a * 2 + x % 2) 0 ∙ lowest ∙ ap (bit x) (sym z)
]

pub started : (start r : ℕ) → r ≡ reverse_bits_onto 64 start 0 → memory_in (r / 2 ^ 6) ≡ field start 0 58
started start r e =
    table_same 58 (λ k. bit (r / 2 ^ 6) (57 - k)) (λ k. bit start (0 + k)) (λ k l.
    bit_shr r 6 (57 - k) ∙ ap (λ (z : ℕ). bit z (6 + (57 - k))) e ∙ reversed_bit 64 start 0 (6 + (57 - k)) (omega arith) ∙ ap (bit start) (omega arith))
    ∙ sym (field-table start 0 58)

pub one_if-small : (b : Bool) → one_if b < 2
one_if-small true = omega arith
one_if-small false = omega arith

one_field : (b : ℕ) → b < 2 → field b 0 1 ≡ b ∷ []
unfolding field
one_field b h = let e : b / 1 % 2 ≡ b = omega arith in ap (λ (x : ℕ). x ∷ []) e

-- what the functions on words and single bits give
module _ (m : ℕ) (small : m < 2 ^ 58) where
  pub scrambled-word : (x y : ℕ) → y ≡ taps (bit_xor x (tail m)) →
      (field y 0 64 ≡ scrambled_bits (memory_in m) (field x 0 64)) × (memory_in (y / 2 ^ 6) ≡ scrambler_after (memory_in m) (field x 0 64))
  scrambled-word x y e =
      let Step : ℕ → Type 0 = λ (z : ℕ). (i : ℕ) → i < 64 → bit z i ≡ bit_xor (bit x i) (bit_xor (bit (history m z) (19 + i)) (bit (history m z) i)) in
      let step : Step y = subst Step (sym e) (λ i l. out_bit m x i small l) in (
        word_gives what_went_out m y x y 64 small (λ i l. refl) step,
        word_leaves what_went_out m y x y 64 small (λ i l. refl) step (y / 2 ^ 6) (λ k l. memory_64 m y k small l),
      )

  pub descrambled-word : (y d : ℕ) → d ≡ bit_xor (taps y) (tail m) →
      (field d 0 64 ≡ descrambled_bits (memory_in m) (field y 0 64)) × (memory_in (y / 2 ^ 6) ≡ descrambler_after (memory_in m) (field y 0 64))
  descrambled-word y d e =
      let step : (i : ℕ) → i < 64 → bit d i ≡ bit_xor (bit y i) (bit_xor (bit (history m y) (19 + i)) (bit (history m y) i)) = λ i l. ap (λ (z : ℕ). bit z i) e ∙ back_bit m y i small l in (
        word_gives what_came_in m y y d 64 small (λ i l. refl) step,
        word_leaves what_came_in m y y d 64 small (λ i l. refl) step (y / 2 ^ 6) (λ k l. memory_64 m y k small l),
      )

  -- one bit, where w is the bit that is remembered
  pub passed_one : (kept : ℕ → ℕ → ℕ) (x y w : ℕ) → x < 2 → w < 2 → y ≡ bit_xor x (tail m) % 2 → ((a b : ℕ) → a ≡ x → b ≡ y → kept a b ≡ w) →
      (y ∷ [] ≡ stream_bits kept (memory_in m) (x ∷ [])) × (memory_in (m / 2 + w * 2 ^ 57 % 2 ^ 64) ≡ stream_after kept (memory_in m) (x ∷ []))
  passed_one kept x y w h k e remembers =
      let low : (z i : ℕ) → z < 2 → i < 1 → bit z i ≡ z = λ z i b l. let i0 : i ≡ 0 = omega arith in rw i0 (omega arith) in
      let s : y < 2 = omega arith in
      let keeps : (i : ℕ) → i < 1 → kept (bit x i) (bit y i) ≡ bit w i = λ i l. remembers _ _ (low x i h l) (low y i s l) ∙ sym (low w i k l) in
      let step : (i : ℕ) → i < 1 → bit y i ≡ bit_xor (bit x i) (bit_xor (bit (history m w) (19 + i)) (bit (history m w) i)) = λ i l. one_bit m x y w i small l e in
      let f : m / 2 + w * 2 ^ 57 % 2 ^ 64 ≡ m / 2 + w * 2 ^ 57 = omega arith in (
        sym (one_field y s) ∙ word_gives kept m w x y 1 small keeps step ∙ ap (stream_bits kept (memory_in m)) (one_field x h),
        ap memory_in f ∙ word_leaves kept m w x y 1 small keeps step (m / 2 + w * 2 ^ 57) (λ j l. memory_1 m w j l) ∙ ap (stream_after kept (memory_in m)) (one_field x h),
      )
