-- What the functions that write a group give, and the three cases of writing one.
use Rattle.std.proofs.Common.{◌≡◌, ℕ, zero, suc, ◌+◌, ◌*◌, ◌%◌, ◌^◌, ◌<◌, true, false, cond, List, [], ◌∷◌, ◌++◌, map, length, get_or, reverse, Some, None, position, sym, refl, ap, ◌∙◌, ap₂, inl, inr, ltb, arith}
use Rattle.std.specs.List.{fold, position_or_len}
use Rattle.std.proofs.lemmas.Grind.{or_after_shift}
use lib.Bits.{bit_or}
use Rattle.std.proofs.lemmas.List.{take_at, drop_at}
use Rattle.std.proofs.lemmas.Bool.{cases_Bool, lt-ltb, le-ltb}
use Rattle.bits.specs.Bits.{field, number}
use Rattle.blocks.specs.Blocks.{is_control, second_bit}
use Rattle.blocks.specs.Groups.{headers, payloads, all_good, some_control, first_control_place, without, group_bits, blocks_under, words}
use Rattle.blocks.specs.declared.block.Block.{Block}
use Rattle.blocks.specs.declared.block.Header.{Header}
use Rattle.blocks.specs.declared.block.Header.TheVariants.{Zeros, Control, Data, Ones}
use Rattle.bits.proofs.Fields.{length-field, field_cons}

pub four : {A : Type 0} (xs : List A) (d : A) → length xs ≡ 4 → xs ≡ get_or xs 0 d ∷ get_or xs 1 d ∷ get_or xs 2 d ∷ get_or xs 3 d ∷ []
four [] d e = absurd (omega arith)
four (a ∷ []) d e = absurd (omega arith)
four (a ∷ b ∷ []) d e = absurd (omega arith)
four (a ∷ b ∷ c ∷ []) d e = absurd (omega arith)
four (a ∷ b ∷ c ∷ x ∷ []) d e = refl
four (a ∷ b ∷ c ∷ x ∷ y ∷ xs) d e = absurd (omega arith)

pub each_of_four : (P : ℕ → Type 0) → P 0 → P 1 → P 2 → P 3 → (k : ℕ) → k < 4 → P k
each_of_four P a b c d zero l = a
each_of_four P a b c d (suc zero) l = b
each_of_four P a b c d (suc (suc zero)) l = c
each_of_four P a b c d (suc (suc (suc zero))) l = d
each_of_four P a b c d (suc (suc (suc (suc k)))) l = absurd (omega arith)

pub headers_map : (bs : List Block) → map (λ (b : Block). b.header) bs ≡ headers bs
headers_map [] = refl
headers_map (b ∷ bs) = ap (λ (l : List Header). b.header ∷ l) (headers_map bs)

pub payloads_map : (bs : List Block) → words (map (λ (b : Block). b.payload) bs) ≡ payloads bs
payloads_map [] = refl
payloads_map (b ∷ bs) = ap (λ (l : List ℕ). field b.payload 0 64 ++ l) (payloads_map bs)

-- the first control block by its place
place_of : (hs : List Header) → position_or_len is_control hs ≡ first_control_place hs
place_of [] = refl
place_of (Zeros ∷ hs) = omega (arith, place_of hs)
place_of (Control ∷ hs) = refl
place_of (Data ∷ hs) = omega (arith, place_of hs)
place_of (Ones ∷ hs) = omega (arith, place_of hs)

pub first_inside : (hs : List Header) → some_control hs ≡ true → first_control_place hs < length hs
first_inside [] s = cc
first_inside (Zeros ∷ hs) s = omega (arith, first_inside hs s)
first_inside (Control ∷ hs) s = omega arith
first_inside (Data ∷ hs) s = omega (arith, first_inside hs s)
first_inside (Ones ∷ hs) s = omega (arith, first_inside hs s)

no_place : (hs : List Header) → some_control hs ≡ false → first_control_place hs ≡ length hs
no_place [] s = refl
no_place (Zeros ∷ hs) s = ap suc (no_place hs s)
no_place (Control ∷ hs) s = cc
no_place (Data ∷ hs) s = ap suc (no_place hs s)
no_place (Ones ∷ hs) s = ap suc (no_place hs s)

position_of : (hs : List Header) → position is_control hs ≡ cond (some_control hs) (Some (first_control_place hs)) None
position_of hs = elim (cases_Bool (some_control hs)) [
  | inl s ↦
      let t : ltb (first_control_place hs) (length hs) ≡ true = lt-ltb _ _ (first_inside hs s) in
      rw (place_of hs, s, t)
  | inr s ↦
      let t : ltb (first_control_place hs) (length hs) ≡ false = le-ltb _ _ (omega (arith, no_place hs s)) in
      rw (place_of hs, s, t)
]

pub none_found : (hs : List Header) → None ≡ position is_control hs → some_control hs ≡ false
none_found hs e = elim (cases_Bool (some_control hs)) [
  | inl s ↦ let f = e ∙ position_of hs in let g = rw s at f in cc
  | inr s ↦ s
]

pub place_found : (hs : List Header) (at : ℕ) → Some at ≡ position is_control hs → (some_control hs ≡ true) × (first_control_place hs ≡ at) × (at < length hs)
place_found hs at e = elim (cases_Bool (some_control hs)) [
  | inl s ↦
      let f = e ∙ position_of hs in
      let g = rw s at f in
      let p : first_control_place hs ≡ at = cc in
      (s, p, omega (arith, first_inside hs s))
  | inr s ↦ let f = e ∙ position_of hs in let g = rw s at f in cc
]

module _ (bs : List Block) (parts : List ℕ) where
  pub bad_group : all_good (headers bs) ≡ false → parts ≡ field 15 0 4 ++ without 4 (payloads bs) → 0 ∷ parts ≡ group_bits bs
  unfolding group_bits field
  bad_group g e = rw g (ap (λ (l : List ℕ). 0 ∷ l) e)

  pub data_group : all_good (headers bs) ≡ true → some_control (headers bs) ≡ false → parts ≡ payloads bs → 1 ∷ parts ≡ group_bits bs
  unfolding group_bits
  data_group g s e = rw (g, s) (ap (λ (l : List ℕ). 1 ∷ l) e)

  pub control_group : (at : ℕ) → all_good (headers bs) ≡ true → some_control (headers bs) ≡ true → first_control_place (headers bs) ≡ at →
      parts ≡ map second_bit (headers bs) ++ without (64 * at + 4) (payloads bs) → 0 ∷ parts ≡ group_bits bs
  unfolding group_bits
  control_group at g s f e = rw (g, s, f) (ap (λ (l : List ℕ). 0 ∷ l) e)

pub second_small : (h : Header) → second_bit h < 2
second_small Zeros = omega arith
second_small Control = omega arith
second_small Data = omega arith
second_small Ones = omega arith

-- a flag below those of x
abbrev pub pushed : ℕ → Header → ℕ
pushed x h = bit_or (x * 2 % 2 ^ 64) (second_bit h)

pushed_adds : (x : ℕ) (h : Header) → x < 2 ^ 63 → pushed x h ≡ second_bit h + 2 * x
pushed_adds x h l = or_after_shift x 2 (2 ^ 64) (second_bit h) refl (second_small h) (omega arith) ∙ omega arith

-- four of them, pushed in from the last one on
pub shifted_in : (hs : List Header) → length hs ≡ 4 → fold pushed 0 (reverse hs) ≡ number (map second_bit hs)
unfolding number
shifted_in hs n = rw (four hs Zeros n) (go (get_or hs 0 Zeros) (get_or hs 1 Zeros) (get_or hs 2 Zeros) (get_or hs 3 Zeros))
  where
    go : (a b c d : Header) → pushed (pushed (pushed (pushed 0 d) c) b) a ≡ second_bit a + 2 * (second_bit b + 2 * (second_bit c + 2 * (second_bit d + 2 * 0)))
    go a b c d =
        let i = second_small b in
        let j = second_small c in
        let k = second_small d in
        let x = pushed_adds 0 d (omega arith) in
        let y = pushed_adds (pushed 0 d) c (omega arith) in
        let z = pushed_adds (pushed (pushed 0 d) c) b (omega arith) in
        pushed_adds (pushed (pushed (pushed 0 d) c) b) a (omega arith) ∙ omega arith

-- and their bits
pub flag_bits : (hs : List Header) → field (number (map second_bit hs)) 0 (length hs) ≡ map second_bit hs
unfolding field number
flag_bits [] = refl
flag_bits (h ∷ hs) = field_cons (second_bit h) (number (map second_bit hs)) (length hs) (second_small h) ∙ ap (λ (l : List ℕ). second_bit h ∷ l) (flag_bits hs)

-- block k of headers and payloads
abbrev pub Joined : List Header → List ℕ → List Block → ℕ → Type 0
Joined hs ps bs k = get_or bs k (record { header = Zeros; payload = 0 }) ≡ record { header = get_or hs k Zeros; payload = number (field (get_or ps k 0) 0 64) }

pub joined_words : (hs : List Header) (ps : List ℕ) (bs : List Block) → length ps ≡ length hs → length bs ≡ length hs → ((k : ℕ) → k < length hs → Joined hs ps bs k) → bs ≡ blocks_under hs (words ps)
joined_words [] ps [] m n f = refl
joined_words [] ps (b ∷ bs) m n f = absurd (omega arith)
joined_words (h ∷ hs) [] bs m n f = absurd (omega arith)
joined_words (h ∷ hs) (p ∷ ps) [] m n f = absurd (omega arith)
joined_words (h ∷ hs) (p ∷ ps) (b ∷ bs) m n f =
    let l = length-field p 0 64 in
    ap₂ (λ (c : Block) (cs : List Block). c ∷ cs) (f 0 (omega arith)) (joined_words hs ps bs (omega arith) (omega arith) (λ k i. f (suc k) (omega arith)))
    ∙ sym (ap₂ (λ (x y : List ℕ). record { header = h; payload = number x } ∷ blocks_under hs y) (take_at (field p 0 64) (words ps) 64 l) (drop_at (field p 0 64) (words ps) 64 l))
