-- What comes back of a group, and that a sound one comes back as it was.
use Rattle.std.proofs.Common.{◌≡◌, ℕ, zero, suc, ◌+◌, ◌*◌, ◌/◌, ◌%◌, ◌^◌, ◌<◌, true, false, eqb, List, [], ◌∷◌, ◌++◌, map, length, get_or, take, drop, set, Some, None, Option, sym, refl, ap, ◌∙◌, subst, ap₂, inl, inr, append_assoc, div-one, arith, lit<}
use Rattle.std.specs.List.{find, position}
use Rattle.std.specs.Option.{option_map}
use Rattle.std.proofs.lemmas.Nat.{field_of}
use Rattle.std.proofs.lemmas.List.{take_at, drop_at, length-set}
use Rattle.std.proofs.lemmas.Bool.{cases_Bool, eqb-true}
use Rattle.bits.specs.Bits.{field, number}
use Rattle.blocks.specs.Blocks.{second_bit, is_control, payload_bits}
use Rattle.blocks.specs.Groups.{headers, payloads, all_good, some_control, first_control_place, without, with_digit_at, group_bits, types, fitting, high_digit, flagged, some_zero, first_zero_place, blocks_under, control_back, flags_back, read_back}
use Rattle.blocks.specs.Sound.{among, is_type, payload_at, sound, retyped, put_digit, with_headers, control_comes, comes_back, Payloads, GroupsReturn}
use Rattle.blocks.specs.declared.block.Header.{Header}
use Rattle.blocks.specs.declared.block.Header.TheVariants.{Zeros, Control, Data, Ones}
use Rattle.blocks.specs.declared.block.Block.{Block}
use Rattle.bits.proofs.Fields.{length-field, number-field, number-whole}
use Rattle.blocks.proofs.Reading.{data_read, zero_control, first_zero}
use Rattle.blocks.proofs.Written.{first_inside, none_found, place_found}
use Rattle.blocks.proofs.Parts.{around, take_past, drop_past, without_past, take_in, drop_in}

-- four bits left out of a part and four put in
module _ (x : ℕ) (rest : List ℕ) where
  left_out : without 4 (field x 0 64 ++ rest) ≡ field x 0 4 ++ (field x 8 56 ++ rest)
  left_out = ap₂ (λ (u v : List ℕ). u ++ v) (take_in x 4 60 rest) (drop_in x 0 8 56 rest)

  put_in : (d : ℕ) → d < 16 → with_digit_at 4 d (without 4 (field x 0 64 ++ rest)) ≡ field (retyped d x) 0 64 ++ rest
  put_in d h =
      let behind : List ℕ = field x 8 56 ++ rest in
      let D : List ℕ = field d 0 4 in
      ap (with_digit_at 4 d) left_out
      ∙ ap₂ (λ (u v : List ℕ). u ++ (D ++ v)) (take_at (field x 0 4) behind 4 (length-field x 0 4)) (drop_at (field x 0 4) behind 4 (length-field x 0 4))
      ∙ ap (λ (l : List ℕ). field x 0 4 ++ l) (sym (append_assoc D (field x 8 56) rest))
      ∙ sym (append_assoc (field x 0 4) (D ++ field x 8 56) rest)
      ∙ ap (λ (l : List ℕ). l ++ rest) (sym (around x d h))

  low : number (take 4 (without 4 (field x 0 64 ++ rest))) ≡ x % 16
  low = ap (λ (l : List ℕ). number (take 4 l)) left_out ∙ ap number (take_at (field x 0 4) (field x 8 56 ++ rest) 4 (length-field x 0 4)) ∙ number-field x 0 4 ∙ ap (λ (y : ℕ). y % 16) (div-one x)

with_digit_at_past : (xs ys : List ℕ) (n p d : ℕ) → length xs ≡ n → with_digit_at (n + p) d (xs ++ ys) ≡ xs ++ with_digit_at p d ys
with_digit_at_past xs ys n p d e =
    ap₂ (λ (u v : List ℕ). u ++ (field d 0 4 ++ v)) (take_past xs ys n p e) (drop_past xs ys n p e) ∙ append_assoc xs (take p ys) (field d 0 4 ++ drop p ys)

one_on : (c : ℕ) → 64 * suc c + 4 ≡ 64 + (64 * c + 4)
one_on c = omega arith

-- the digit of block c is left out and d is put in
digit_put : (c d : ℕ) (bs : List Block) → c < length bs → d < 16 → with_digit_at (64 * c + 4) d (without (64 * c + 4) (payloads bs)) ≡ payloads (put_digit c d bs)
digit_put c d [] l h = absurd (omega arith)
digit_put zero d (b ∷ bs) l h = put_in b.payload (payloads bs) d h
digit_put (suc c) d (b ∷ bs) l h =
    let n = length-field b.payload 0 64 in
    rw (one_on c) (ap (with_digit_at (64 + (64 * c + 4)) d) (without_past (payload_bits b) (payloads bs) 64 (64 * c + 4) n)
    ∙ with_digit_at_past (payload_bits b) (without (64 * c + 4) (payloads bs)) 64 (64 * c + 4) d n
    ∙ ap (λ (s : List ℕ). payload_bits b ++ s) (digit_put c d bs (omega arith) h))

-- the low digit of block c's type is where reading back looks for it
digit_low : (c : ℕ) (bs : List Block) → c < length bs → number (take 4 (drop (64 * c) (without (64 * c + 4) (payloads bs)))) ≡ payload_at c bs % 16
digit_low c [] l = absurd (omega arith)
digit_low zero (b ∷ bs) l = low b.payload (payloads bs)
digit_low (suc c) (b ∷ bs) l =
    let n = length-field b.payload 0 64 in
    let e : 64 * suc c ≡ 64 + 64 * c = omega arith in
    rw (one_on c, e) (ap (λ (s : List ℕ). number (take 4 (drop (64 + 64 * c) s))) (without_past (payload_bits b) (payloads bs) 64 (64 * c + 4) n)
    ∙ ap (λ (s : List ℕ). number (take 4 s)) (drop_past (payload_bits b) (without (64 * c + 4) (payloads bs)) 64 (64 * c) n)
    ∙ digit_low c bs (omega arith))

-- blocks out of payloads
under : (hs : List Header) (bs : List Block) → length hs ≡ length bs → Payloads bs → blocks_under hs (payloads bs) ≡ with_headers hs bs
under [] [] e p = refl
under [] (b ∷ bs) e p = absurd (omega arith)
under (h ∷ hs) [] e p = absurd (omega arith)
under (h ∷ hs) (b ∷ bs) e p =
    ap₂ (λ (x : ℕ) (s : List ℕ). record { header = h; payload = x } ∷ blocks_under hs s)
    (ap number (take_at (payload_bits b) (payloads bs) 64 (length-field b.payload 0 64)) ∙ number-whole b.payload 64 p.0)
    (drop_at (payload_bits b) (payloads bs) 64 (length-field b.payload 0 64))
    ∙ ap (λ (l : List Block). record { header = h; payload = b.payload } ∷ l) (under hs bs (omega arith) p.1)

own-headers : (bs : List Block) → with_headers (headers bs) bs ≡ bs
own-headers [] = refl
own-headers (b ∷ bs) = ap (λ (l : List Block). b ∷ l) (own-headers bs)

pub length-headers : (bs : List Block) → length (headers bs) ≡ length bs
length-headers [] = refl
length-headers (b ∷ bs) = ap suc (length-headers bs)

length_put : (c d : ℕ) (bs : List Block) → length (put_digit c d bs) ≡ length bs
length_put c d [] = refl
length_put zero d (b ∷ bs) = refl
length_put (suc c) d (b ∷ bs) = ap suc (length_put c d bs)

headers_put : (c d : ℕ) (bs : List Block) → headers (put_digit c d bs) ≡ headers bs
headers_put c d [] = refl
headers_put zero d (b ∷ bs) = refl
headers_put (suc c) d (b ∷ bs) = ap (λ (l : List Header). b.header ∷ l) (headers_put c d bs)

payloads_put : (c d : ℕ) (bs : List Block) → d < 16 → Payloads bs → Payloads (put_digit c d bs)
payloads_put c d [] h p = p
payloads_put zero d (b ∷ bs) h p = let x : b.payload < 2 ^ 64 = p.0 in (omega arith, p.1)
payloads_put (suc c) d (b ∷ bs) h p = (p.0, payloads_put c d bs h p.1)

-- where all headers are good, flags tell them
flags_headers : (hs : List Header) → all_good hs ≡ true → map flagged (map second_bit hs) ≡ hs
flags_headers [] g = refl
flags_headers (Zeros ∷ hs) g = cc
flags_headers (Control ∷ hs) g = ap (λ (l : List Header). Control ∷ l) (flags_headers hs g)
flags_headers (Data ∷ hs) g = ap (λ (l : List Header). Data ∷ l) (flags_headers hs g)
flags_headers (Ones ∷ hs) g = cc

flags_zero : (hs : List Header) → all_good hs ≡ true → some_zero (map second_bit hs) ≡ some_control hs
flags_zero hs g = sym (zero_control (map second_bit hs)) ∙ ap some_control (flags_headers hs g)

flags_first : (hs : List Header) → all_good hs ≡ true → first_zero_place (map second_bit hs) ≡ first_control_place hs
flags_first hs g = sym (first_zero (map second_bit hs)) ∙ ap first_control_place (flags_headers hs g)

all_data : (hs : List Header) → all_good hs ≡ true → some_control hs ≡ false → map (λ (h : Header). Data) hs ≡ hs
all_data [] g s = refl
all_data (Zeros ∷ hs) g s = cc
all_data (Control ∷ hs) g s = cc
all_data (Data ∷ hs) g s = ap (λ (l : List Header). Data ∷ l) (all_data hs g s)
all_data (Ones ∷ hs) g s = cc

-- a digit that fits is a digit
Octets : List ℕ → Type 0
Octets [] = Unit {0}
Octets (t ∷ ts) = (t < 256) × Octets ts

fitting-digit : (ts : List ℕ) (x d : ℕ) → Octets ts → fitting ts x ≡ Some d → d < 16
unfolding Octets
fitting-digit [] x d o e = cc
fitting-digit (t ∷ ts) x d o e = elim (cases_Bool (eqb (t % 16) x)) [
  | inl q ↦ let k = rw q at e in let z : t / 16 ≡ d = cc in let s : t < 256 = o.0 in omega arith
  | inr q ↦ fitting-digit ts x d o.1 (rw q at e)
]

pub high_digit-small : (x d : ℕ) → high_digit x ≡ Some d → d < 16
unfolding high_digit types Octets
high_digit-small x d e = fitting-digit types x d (lit< tt, (lit< tt, (lit< tt, (lit< tt, (lit< tt, (lit< tt, (lit< tt, (lit< tt, (lit< tt, (lit< tt, (lit< tt, tt))))))))))) e

control_returned : (hs : List Header) (c : ℕ) (bs : List Block) (o : Option ℕ) → hs ≡ headers bs → c < length bs → Payloads bs → ((d : ℕ) → o ≡ Some d → d < 16) → (flags : List ℕ) → map flagged flags ≡ hs →
    control_back flags c (without (64 * c + 4) (payloads bs)) o ≡ control_comes c bs o
unfolding control_back
control_returned hs c bs (Some d) e l p s flags f =
    let h : d < 16 = s d refl in
    ap₂ (λ (gs : List Header) (t : List ℕ). blocks_under gs t) (f ∙ e ∙ sym (headers_put c d bs)) (digit_put c d bs l h)
    ∙ under (headers (put_digit c d bs)) (put_digit c d bs) (length-headers (put_digit c d bs)) (payloads_put c d bs h p) ∙ own-headers (put_digit c d bs)
control_returned hs c bs None e l p s flags f =
    let n : length (set (headers bs) c Ones) ≡ length (put_digit c 0 bs) = length-set (headers bs) c Ones ∙ length-headers bs ∙ sym (length_put c 0 bs) in
    ap₂ (λ (gs : List Header) (t : List ℕ). blocks_under (set gs c Ones) t) (f ∙ e) (digit_put c 0 bs l (omega arith))
    ∙ under (set (headers bs) c Ones) (put_digit c 0 bs) n (payloads_put c 0 bs (omega arith) p)

-- reading back behind bit 0 and four flags
flags_read : (f g h i : ℕ) (rest : List ℕ) → read_back (0 ∷ f ∷ g ∷ h ∷ i ∷ rest) ≡ flags_back (f ∷ g ∷ h ∷ i ∷ []) rest
unfolding read_back
flags_read f g h i rest = refl

control_flags : (flags rest : List ℕ) (c : ℕ) → some_zero flags ≡ true → first_zero_place flags ≡ c → flags_back flags rest ≡ control_back flags c rest (high_digit (number (take 4 (drop (64 * c) rest))))
unfolding flags_back
control_flags flags rest c z f = rw (z, f)

-- the three cases of the definitions
module _ (bs : List Block) (g : all_good (headers bs) ≡ true) where
  control_written : some_control (headers bs) ≡ true → group_bits bs ≡ 0 ∷ (map second_bit (headers bs) ++ without (64 * first_control_place (headers bs) + 4) (payloads bs))
  unfolding group_bits
  control_written s = rw (g, s)

  control_came : some_control (headers bs) ≡ true → comes_back bs ≡ control_comes (first_control_place (headers bs)) bs (high_digit (payload_at (first_control_place (headers bs)) bs % 16))
  unfolding comes_back
  control_came s = rw (g, s)

  data_written : some_control (headers bs) ≡ false → group_bits bs ≡ 1 ∷ payloads bs
  unfolding group_bits
  data_written s = rw (g, s)

  data_came : some_control (headers bs) ≡ false → comes_back bs ≡ bs
  unfolding comes_back
  data_came s = rw (g, s)

module _ (bs : List Block) (g : all_good (headers bs) ≡ false) where
  bad_written : group_bits bs ≡ 0 ∷ 1 ∷ 1 ∷ 1 ∷ 1 ∷ without 4 (payloads bs)
  unfolding group_bits
  bad_written = rw g

  bad_came : comes_back bs ≡ with_headers (Zeros ∷ Ones ∷ Zeros ∷ Ones ∷ []) (put_digit 0 0 bs)
  unfolding comes_back
  bad_came = rw g

bad_flags : (rest : List ℕ) → flags_back (1 ∷ 1 ∷ 1 ∷ 1 ∷ []) rest ≡ blocks_under (Zeros ∷ Ones ∷ Zeros ∷ Ones ∷ []) (with_digit_at 4 0 rest)
unfolding flags_back
bad_flags rest = refl

module _ (a b c d : Block) (p : Payloads (a ∷ b ∷ c ∷ d ∷ [])) where
  four_return : read_back (group_bits (a ∷ b ∷ c ∷ d ∷ [])) ≡ comes_back (a ∷ b ∷ c ∷ d ∷ [])
  four_return =
      let bs : List Block = a ∷ b ∷ c ∷ d ∷ [] in
      let hs : List Header = headers bs in
      let k : ℕ = first_control_place hs in
      elim (cases_Bool (all_good hs)) [
        | inl g ↦ elim (cases_Bool (some_control hs)) [
          | inl s ↦
              let T : List ℕ = without (64 * k + 4) (payloads bs) in
              let fs : List ℕ = map second_bit hs in
              let l : k < length bs = first_inside hs s in
              ap read_back (control_written bs g s) ∙ flags_read (second_bit a.header) (second_bit b.header) (second_bit c.header) (second_bit d.header) T
              ∙ control_flags fs T k (flags_zero hs g ∙ s) (flags_first hs g)
              ∙ ap (λ (x : ℕ). control_back fs k T (high_digit x)) (digit_low k bs l)
              ∙ control_returned hs k bs (high_digit (payload_at k bs % 16)) refl l p (high_digit-small (payload_at k bs % 16)) fs (flags_headers hs g)
              ∙ sym (control_came bs g s)
          | inr s ↦
              ap read_back (data_written bs g s) ∙ sym (data_read (payloads bs)) ∙ under (Data ∷ Data ∷ Data ∷ Data ∷ []) bs refl p
              ∙ ap (λ (l : List Header). with_headers l bs) (all_data hs g s) ∙ own-headers bs ∙ sym (data_came bs g s)
        ]
        | inr g ↦
            ap read_back (bad_written bs g) ∙ flags_read 1 1 1 1 (without 4 (payloads bs)) ∙ bad_flags (without 4 (payloads bs))
            ∙ ap (blocks_under (Zeros ∷ Ones ∷ Zeros ∷ Ones ∷ [])) (digit_put 0 0 bs (omega arith) (omega arith))
            ∙ under (Zeros ∷ Ones ∷ Zeros ∷ Ones ∷ []) (put_digit 0 0 bs) refl (payloads_put 0 0 bs (omega arith) p)
            ∙ sym (bad_came bs g)
      ]

-- a listed type is the type that has its low digit
Own : List ℕ → Type 0
Own [] = Unit {0}
Own (t ∷ ts) = (high_digit (t % 16) ≡ Some (t / 16)) × Own ts

own_among : (ts : List ℕ) (x : ℕ) → Own ts → among ts x ≡ true → high_digit (x % 16) ≡ Some (x / 16)
unfolding Own
own_among [] x o e = cc
own_among (t ∷ ts) x o e = elim (cases_Bool (eqb t x)) [
  | inl q ↦ let s : t ≡ x = eqb-true t x q in subst (λ (y : ℕ). high_digit (y % 16) ≡ Some (y / 16)) s o.0
  | inr q ↦ own_among ts x o.1 (rw q at e)
]

own_digit : (x : ℕ) → is_type x ≡ true → high_digit (x % 16) ≡ Some (x / 16)
unfolding Own is_type high_digit types
own_digit x e = own_among types x (refl, (refl, (refl, (refl, (refl, (refl, (refl, (refl, (refl, (refl, (refl, tt))))))))))) e

-- the high digit by looking through the types
pub fitting_found : (ts : List ℕ) (d : ℕ) → option_map (λ (t : ℕ). t / 16) (find (λ (t : ℕ). eqb (t % 16) d) ts) ≡ fitting ts d
fitting_found [] d = refl
fitting_found (t ∷ ts) d = elim (cases_Bool (eqb (t % 16) d)) [
  | inl q ↦ rw q
  | inr q ↦ rw q (fitting_found ts d)
]

put_own : (c : ℕ) (bs : List Block) → put_digit c (payload_at c bs / 16 % 16) bs ≡ bs
put_own c [] = refl
put_own zero (b ∷ bs) = let e : retyped (b.payload / 16 % 16) b.payload ≡ b.payload = omega arith in ap (λ (x : ℕ). record { header = b.header; payload = x } ∷ bs) e
put_own (suc c) (b ∷ bs) = ap (λ (l : List Block). b ∷ l) (put_own c bs)

sound_comes : (bs : List Block) → sound bs ≡ true → comes_back bs ≡ bs
unfolding sound
sound_comes bs e = elim (cases_Bool (all_good (headers bs))) [
  | inr g ↦ let k = rw g at e in cc
  | inl g ↦ elim (cases_Bool (some_control (headers bs))) [
    | inr s ↦ data_came bs g s
    | inl s ↦
        let c : ℕ = first_control_place (headers bs) in
        let x : ℕ = payload_at c bs in
        let t : is_type (x % 256) ≡ true = rw (g, s) at e in
        let d : high_digit (x % 256 % 16) ≡ Some (x % 256 / 16) = own_digit (x % 256) t in
        let low : x % 256 % 16 ≡ x % 16 = omega arith in
        let high : x % 256 / 16 ≡ x / 16 % 16 = field_of x 4 4 in
        control_came bs g s ∙ ap (λ (y : ℕ). control_comes c bs (high_digit y)) (sym low) ∙ ap (control_comes c bs) d ∙ ap (λ (y : ℕ). put_digit c y bs) high ∙ put_own c bs
  ]
]

pub groups_return : GroupsReturn
groups_return [] e p = absurd (omega arith)
groups_return (a ∷ []) e p = absurd (omega arith)
groups_return (a ∷ b ∷ []) e p = absurd (omega arith)
groups_return (a ∷ b ∷ c ∷ []) e p = absurd (omega arith)
groups_return (a ∷ b ∷ c ∷ d ∷ x ∷ bs) e p = absurd (omega arith)
groups_return (a ∷ b ∷ c ∷ d ∷ []) e p =
    let any = four_return a b c d p in
    record { any = any; whole = λ s. any ∙ sound_comes (a ∷ b ∷ c ∷ d ∷ []) s }

-- the payload of the block that stands at a place
payload_got : (at : ℕ) (bs : List Block) (z : Block) → at < length bs → (get_or bs at z).payload ≡ payload_at at bs
payload_got at [] z l = absurd (omega arith)
payload_got zero (b ∷ bs) z l = refl
payload_got (suc at) (b ∷ bs) z l = payload_got at bs z (omega arith)

module _ (bs : List Block) where
  pub bad_unsound : all_good (headers bs) ≡ false → false ≡ sound bs
  unfolding sound
  bad_unsound g = rw g

  pub data_sound : all_good (headers bs) ≡ true → None ≡ position is_control (headers bs) → true ≡ sound bs
  unfolding sound
  data_sound g e = rw (g, none_found (headers bs) e) refl

  pub control_sound : all_good (headers bs) ≡ true → (at : ℕ) (z : Block) → Some at ≡ position is_control (headers bs) → is_type ((get_or bs at z).payload % 256) ≡ sound bs
  unfolding sound
  control_sound g at z e =
      let f = place_found (headers bs) at e in
      let n : at < length bs = subst (λ k. at < k) (length-headers bs) f.2 in
      rw (g, f.0, f.1, payload_got at bs z n) refl
