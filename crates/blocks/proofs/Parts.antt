-- The parts of a group around the digit that is left out.
use Rattle.std.proofs.Common.{◌≡◌, ℕ, zero, suc, ◌+◌, ◌*◌, ◌/◌, ◌%◌, ◌^◌, ◌<◌, List, [], ◌∷◌, ◌++◌, length, get_or, take, drop, sym, refl, ap, ◌∙◌, ap₂, append_assoc, zero-add, arith, length-append}
use Rattle.std.proofs.lemmas.List.{take_at, drop_at, drop-drop}
use Rattle.std.proofs.lemmas.Grind.{same_number_lists}
use Rattle.bits.specs.Bits.{field, number}
use Rattle.blocks.specs.Groups.{without, with_digit_at, words}
use Rattle.bits.proofs.Fields.{length-field, field-append, field_shift, field-mod, field_high, field_join, number-field}

-- four bits in front of sixty
pub carried_bits : (before x : ℕ) → before < 2 ^ 64 → field (x * 16 % 2 ^ 64 + before / 2 ^ 60) 0 64 ≡ field before 60 4 ++ field x 0 60
carried_bits before x h =
    let e : x * 16 % 2 ^ 64 + before / 2 ^ 60 ≡ (x % 2 ^ 60) * 2 ^ 4 + before / 2 ^ 60 = omega arith in
    ap (λ (y : ℕ). field y 0 64) e
    ∙ field_join (x % 2 ^ 60) 4 (before / 2 ^ 60) 60 (omega arith)
    ∙ ap₂ (λ (u v : List ℕ). u ++ v) (field_shift before 60 0 4) (field-mod x 60 0 60 (omega arith))

-- four flags at the top of a word
pub flags_ahead : (flags : ℕ) → field (flags * 2 ^ 60 % 2 ^ 64) 60 4 ≡ field flags 0 4
flags_ahead flags =
    let e : flags * 2 ^ 60 % 2 ^ 64 ≡ (flags % 2 ^ 4) * 2 ^ 60 + 0 = omega arith in
    ap (λ (y : ℕ). field y 60 4) e ∙ field_high (flags % 2 ^ 4) 60 0 0 4 (omega arith) ∙ field-mod flags 4 0 4 (omega arith)

-- the low digit of x, then its bits from bit 8 on
pub around : (x : ℕ) (d : ℕ) → d < 16 → field (x / 256 * 256 + d * 16 + x % 16) 0 64 ≡ field x 0 4 ++ (field d 0 4 ++ field x 8 56)
around x d h =
    let e : x / 256 * 256 + d * 16 + x % 16 ≡ (x / 256 * 2 ^ 4 + d) * 2 ^ 4 + x % 16 = omega arith in
    ap (λ (y : ℕ). field y 0 64) e
    ∙ field_join (x / 256 * 2 ^ 4 + d) 4 (x % 16) 60 (omega arith)
    ∙ ap₂ (λ (u v : List ℕ). u ++ v) (field-mod x 4 0 4 (omega arith))
    (field_join (x / 256) 4 d 56 h ∙ ap (λ (bs : List ℕ). field d 0 4 ++ bs) (field_shift x 8 0 56))

-- four bits in front of the low digit and the bits from bit 8 on
pub shortened_bits : (before x : ℕ) → before < 2 ^ 64 → field (x / 256 * 256 + x % 16 * 16 + before / 2 ^ 60) 0 64 ≡ field before 60 4 ++ (field x 0 4 ++ field x 8 56)
shortened_bits before x h =
    let e : x / 256 * 256 + x % 16 * 16 + before / 2 ^ 60 ≡ (x / 256 * 2 ^ 4 + x % 16) * 2 ^ 4 + before / 2 ^ 60 = omega arith in
    ap (λ (y : ℕ). field y 0 64) e
    ∙ field_join (x / 256 * 2 ^ 4 + x % 16) 4 (before / 2 ^ 60) 60 (omega arith)
    ∙ ap₂ (λ (u v : List ℕ). u ++ v) (field_shift before 60 0 4)
    (field_join (x / 256) 4 (x % 16) 56 (omega arith) ∙ ap₂ (λ (u v : List ℕ). u ++ v) (field-mod x 4 0 4 (omega arith)) (field_shift x 8 0 56))

-- four of a kind, one by one
pub four_of : {A : Type 0} (d : A) (xs : List A) → length xs ≡ 4 → xs ≡ get_or xs 0 d ∷ get_or xs 1 d ∷ get_or xs 2 d ∷ get_or xs 3 d ∷ []
four_of d [] e = absurd (omega arith)
four_of d (a ∷ []) e = absurd (omega arith)
four_of d (a ∷ b ∷ []) e = absurd (omega arith)
four_of d (a ∷ b ∷ c ∷ []) e = absurd (omega arith)
four_of d (a ∷ b ∷ c ∷ x ∷ []) e = refl
four_of d (a ∷ b ∷ c ∷ x ∷ y ∷ xs) e = absurd (omega arith)

-- leaving out what stands past a list of n
pub take_past : {A : Type 0} (xs ys : List A) (n p : ℕ) → length xs ≡ n → take (n + p) (xs ++ ys) ≡ xs ++ take p ys
take_past [] ys n p e = let z : n ≡ 0 = omega arith in rw (z, zero-add)
take_past (x ∷ xs) ys n p e =
    let z : n ≡ suc (length xs) = sym e in
    let s : suc (length xs) + p ≡ suc (length xs + p) = omega arith in
    rw (z, s) (ap (λ (l : List _). x ∷ l) (take_past xs ys (length xs) p refl))

pub drop_past : {A : Type 0} (xs ys : List A) (n p : ℕ) → length xs ≡ n → drop (n + p) (xs ++ ys) ≡ drop p ys
drop_past xs ys n p e = sym (drop-drop p n (xs ++ ys)) ∙ ap (drop p) (drop_at xs ys n e)

pub without_past : (xs ys : List ℕ) (n p : ℕ) → length xs ≡ n → without (n + p) (xs ++ ys) ≡ xs ++ without p ys
without_past xs ys n p e =
    let s : n + p + 4 ≡ n + (p + 4) = omega arith in
    ap₂ (λ (u v : List ℕ). u ++ v) (take_past xs ys n p e) (ap (λ (k : ℕ). drop k (xs ++ ys)) s ∙ drop_past xs ys n (p + 4) e)
    ∙ append_assoc xs (take p ys) (drop (p + 4) ys)

pub take_in : (x m n : ℕ) (ys : List ℕ) → take m (field x 0 (m + n) ++ ys) ≡ field x 0 m
take_in x m n ys =
    ap (λ (l : List ℕ). take m (l ++ ys)) (field-append x 0 m n)
    ∙ ap (take m) (append_assoc (field x 0 m) (field x (0 + m) n) ys)
    ∙ take_at (field x 0 m) (field x (0 + m) n ++ ys) m (length-field x 0 m)

pub drop_in : (x i m n : ℕ) (ys : List ℕ) → drop m (field x i (m + n) ++ ys) ≡ field x (i + m) n ++ ys
drop_in x i m n ys =
    ap (λ (l : List ℕ). drop m (l ++ ys)) (field-append x i m n)
    ∙ ap (drop m) (append_assoc (field x i m) (field x (i + m) n) ys)
    ∙ drop_at (field x i m) (field x (i + m) n ++ ys) m (length-field x i m)

-- the part that loses its digit, with what stands before and behind it
pub leaves_out : (front : List ℕ) (x y : ℕ) (rest : List ℕ) → field y 0 64 ≡ front ++ (field x 0 4 ++ field x 8 56) → field y 0 64 ++ rest ≡ front ++ without 4 (field x 0 64 ++ rest)
leaves_out front x y rest e =
    ap (λ (l : List ℕ). l ++ rest) e
    ∙ append_assoc front (field x 0 4 ++ field x 8 56) rest
    ∙ ap (λ (l : List ℕ). front ++ l) (append_assoc (field x 0 4) (field x 8 56) rest ∙ sym (ap₂ (λ (u v : List ℕ). u ++ v) (take_in x 4 60 rest) (drop_in x 0 8 56 rest)))

-- a part in front of it
pub carries : (front : List ℕ) (x y p : ℕ) (rest out : List ℕ) → field y 0 64 ≡ front ++ field x 0 60 → out ≡ field x 60 4 ++ without p rest
    → field y 0 64 ++ out ≡ front ++ without (64 + p) (field x 0 64 ++ rest)
carries front x y p rest out e f =
    ap₂ (λ (u v : List ℕ). u ++ v) e f
    ∙ append_assoc front (field x 0 60) (field x 60 4 ++ without p rest)
    ∙ ap (λ (l : List ℕ). front ++ l)
    (sym (append_assoc (field x 0 60) (field x 60 4) (without p rest))
    ∙ ap (λ (l : List ℕ). l ++ without p rest) (sym (field-append x 0 60 4))
    ∙ sym (without_past (field x 0 64) rest 64 p (length-field x 0 64)))

-- the low digit of the part's own bits stands behind four others
pub restored_bits : (x d : ℕ) → d < 16 → field (x / 256 * 256 + d * 16 + x / 16 % 16) 0 64 ≡ field x 4 4 ++ (field d 0 4 ++ field x 8 56)
restored_bits x d h =
    let e : x / 256 * 256 + d * 16 + x / 16 % 16 ≡ (x / 256 * 2 ^ 4 + d) * 2 ^ 4 + x / 16 % 16 = omega arith in
    ap (λ (y : ℕ). field y 0 64) e
    ∙ field_join (x / 256 * 2 ^ 4 + d) 4 (x / 16 % 16) 60 (omega arith)
    ∙ ap₂ (λ (u v : List ℕ). u ++ v) (field-mod (x / 16) 4 0 4 (omega arith) ∙ field_shift x 4 0 4)
    (field_join (x / 256) 4 d 56 h ∙ ap (λ (bs : List ℕ). field d 0 4 ++ bs) (field_shift x 8 0 56))

-- sixty bits in front of four
pub uncarried_bits : (x next : ℕ) → x < 2 ^ 64 → field (x / 16 + (next % 16) * 2 ^ 60 % 2 ^ 64) 0 64 ≡ field x 4 60 ++ field next 0 4
uncarried_bits x next h =
    let e : x / 16 + (next % 16) * 2 ^ 60 % 2 ^ 64 ≡ (next % 16) * 2 ^ 60 + x / 16 = omega arith in
    ap (λ (y : ℕ). field y 0 64) e
    ∙ field_join (next % 16) 60 (x / 16) 4 (omega arith)
    ∙ ap₂ (λ (u v : List ℕ). u ++ v) (field_shift x 4 0 60) (field-mod next 4 0 4 (omega arith))

-- the part whose digit is put back, with what stands behind it
puts_back : (d x y : ℕ) (rest : List ℕ) → field y 0 64 ≡ field x 4 4 ++ (field d 0 4 ++ field x 8 56) → field y 0 64 ++ rest ≡ with_digit_at 4 d (drop 4 (field x 0 64 ++ rest))
puts_back d x y rest e =
    let D : List ℕ = field d 0 4 in
    let first : take 4 (field x 4 60 ++ rest) ≡ field x 4 4 =
    ap (λ (l : List ℕ). take 4 (l ++ rest)) (field-append x 4 4 56) ∙ ap (take 4) (append_assoc (field x 4 4) (field x 8 56) rest) ∙ take_at (field x 4 4) (field x 8 56 ++ rest) 4 (length-field x 4 4) in
    ap (λ (l : List ℕ). l ++ rest) e
    ∙ append_assoc (field x 4 4) (D ++ field x 8 56) rest
    ∙ ap (λ (l : List ℕ). field x 4 4 ++ l) (append_assoc D (field x 8 56) rest)
    ∙ sym (ap (with_digit_at 4 d) (drop_in x 0 4 60 rest) ∙ ap₂ (λ (u v : List ℕ). u ++ (D ++ v)) first (drop_in x 4 4 56 rest))

-- a part in front of it
puts_before : (d x y z p : ℕ) (rest out : List ℕ) → field z 0 64 ≡ field x 4 60 ++ field y 0 4 → out ≡ with_digit_at p d (drop 4 (field y 0 64 ++ rest))
    → field z 0 64 ++ out ≡ with_digit_at (64 + p) d (drop 4 (field x 0 64 ++ (field y 0 64 ++ rest)))
puts_before d x y z p rest out e f =
    let front : List ℕ = field x 4 60 ++ field y 0 4 in
    let back : List ℕ = field y 4 60 ++ rest in
    let n : length front ≡ 64 = length-append (field x 4 60) (field y 0 4) ∙ ap₂ (λ (m k : ℕ). m + k) (length-field x 4 60) (length-field y 0 4) in
    let whole : drop 4 (field x 0 64 ++ (field y 0 64 ++ rest)) ≡ front ++ back =
    drop_in x 0 4 60 (field y 0 64 ++ rest)
    ∙ ap (λ (l : List ℕ). field x 4 60 ++ (l ++ rest)) (field-append y 0 4 60)
    ∙ ap (λ (l : List ℕ). field x 4 60 ++ l) (append_assoc (field y 0 4) (field y 4 60) rest)
    ∙ sym (append_assoc (field x 4 60) (field y 0 4) back) in
    ap₂ (λ (u v : List ℕ). u ++ v) e (f ∙ ap (with_digit_at p d) (drop_in y 0 4 60 rest))
    ∙ sym (append_assoc front (take p back) (field d 0 4 ++ drop p back))
    ∙ sym (ap (with_digit_at (64 + p) d) whole ∙ ap₂ (λ (u v : List ℕ). u ++ (field d 0 4 ++ v)) (take_past front back 64 p n) (drop_past front back 64 p n))

-- payload k of parts ps, where payload `at` gets the digit d back
abbrev pub Put : ℕ → ℕ → List ℕ → List ℕ → ℕ → Type 0
Put d at ps rs k =
    (k < at → field (get_or rs k 0) 0 64 ≡ field (get_or ps k 0) 4 60 ++ field (get_or ps (suc k) 0) 0 4)
    × (k ≡ at → field (get_or rs k 0) 0 64 ≡ field (get_or ps k 0) 4 4 ++ (field d 0 4 ++ field (get_or ps k 0) 8 56))
    × (at < k → get_or rs k 0 ≡ get_or ps k 0)

pub put_back_at : (d at : ℕ) (ps rs : List ℕ) → length rs ≡ length ps → at < length ps → ((k : ℕ) → k < length ps → Put d at ps rs k) →
    words rs ≡ with_digit_at (64 * at + 4) d (drop 4 (words ps))
put_back_at d at [] rs n l f = absurd (omega arith)
put_back_at d at (p ∷ ps) [] n l f = absurd (omega arith)
put_back_at d zero (p ∷ ps) (r ∷ rs) n l f =
    let same : rs ≡ ps = same_number_lists rs ps (omega arith) (λ k m. (f (suc k) (omega arith)).2 (omega arith)) in
    rw same (puts_back d p r (words ps) ((f 0 (omega arith)).1 refl))
put_back_at d (suc at) (p ∷ []) (r ∷ rs) n l f = absurd (omega arith)
put_back_at d (suc at) (p ∷ q ∷ ps) (r ∷ rs) n l f =
    let e : 64 * suc at + 4 ≡ 64 + (64 * at + 4) = omega arith in
    let rest : (k : ℕ) → k < length (q ∷ ps) → Put d at (q ∷ ps) rs k = λ k m.
    let g = f (suc k) (omega arith) in (λ a. g.0 (omega arith), λ a. g.1 (ap suc a), λ a. g.2 (omega arith)) in
    rw e (puts_before d p q r (64 * at + 4) (words ps) (words rs) ((f 0 (omega arith)).0 (omega arith)) (put_back_at d at (q ∷ ps) rs (omega arith) (omega arith) rest))

-- four bits behind the first four of a part
digit_of : (x : ℕ) (rest : List ℕ) → number (take 4 (drop 4 (field x 0 64 ++ rest))) ≡ x / 16 % 16
digit_of x rest =
    ap (λ (l : List ℕ). number (take 4 l)) (drop_in x 0 4 60 rest)
    ∙ ap (λ (l : List ℕ). number (take 4 (l ++ rest))) (field-append x 4 4 56)
    ∙ ap (λ (l : List ℕ). number (take 4 l)) (append_assoc (field x 4 4) (field x 8 56) rest)
    ∙ ap number (take_at (field x 4 4) (field x 8 56 ++ rest) 4 (length-field x 4 4)) ∙ number-field x 4 4

-- the same behind parts in front
digit_past : (x n : ℕ) (rest : List ℕ) → number (take 4 (drop (64 + n) (drop 4 (field x 0 64 ++ rest)))) ≡ number (take 4 (drop n (drop 4 rest)))
digit_past x n rest =
    let W : List ℕ = field x 0 64 ++ rest in
    let e : 4 + (64 + n) ≡ 64 + (4 + n) = omega arith in
    ap (λ (l : List ℕ). number (take 4 l))
    (drop-drop (64 + n) 4 W ∙ ap (λ (k : ℕ). drop k W) e ∙ drop_past (field x 0 64) rest 64 (4 + n) (length-field x 0 64) ∙ sym (drop-drop n 4 rest))

pub digit_at : (at : ℕ) (ps : List ℕ) → at < length ps → get_or ps at 0 / 16 % 16 ≡ number (take 4 (drop (64 * at) (drop 4 (words ps))))
digit_at at [] l = absurd (omega arith)
digit_at zero (p ∷ ps) l = sym (digit_of p (words ps))
digit_at (suc at) (p ∷ ps) l =
    let e : 64 * suc at ≡ 64 + 64 * at = omega arith in
    rw e (digit_at at ps (omega arith) ∙ sym (digit_past p (64 * at) (words ps)))
