-- Steps of writing a line, and the library's table of digits.
use Rattle.std.proofs.Common.{◌≡◌, ℕ, zero, suc, ◌+◌, ◌*◌, ◌/◌, ◌%◌, ◌<◌, Bool, true, ◌==◌, ◌&&◌, List, [], ◌∷◌, ◌++◌, length, get_or, take, drop, set, slice_index, sym, refl, ap, ◌∙◌, ap₂, append_assoc, arith, length-drop, length-set}
use Rattle.std.proofs.lemmas.Bool.Decides.{Decides-below_and, Decides-eqb}
use Rattle.std.proofs.lemmas.List.{take_more, take_more_set, drop-set-lt, get_or-drop}
use Rattle.hex.specs.Hex.{lower_digits}
use Rattle.commands.specs.Lines.{digit, digits}

alike : ℕ → Bool
alike zero = true
alike (suc n) = (slice_index lower_digits n == digit n) && alike n

all_alike : alike 16 ≡ true
unfolding alike
all_alike = refl

pub lower_digits_at : (n : ℕ) → n < 16 → slice_index lower_digits n ≡ digit n
unfolding alike
lower_digits_at =
    (Decides-below_and (λ n. slice_index lower_digits n == digit n) (λ n. slice_index lower_digits n ≡ digit n) alike (λ n. Decides-eqb (slice_index lower_digits n) (digit n)) refl (λ _. refl) 16).0 all_alike

digits_more : (xs : List ℕ) (x : ℕ) → digits (xs ++ x ∷ []) ≡ digits xs ++ digit (x / 16) ∷ digit (x % 16) ∷ []
unfolding digits
digits_more [] x = refl
digits_more (y ∷ xs) x = ap (λ (l : List ℕ). digit (y / 16) ∷ digit (y % 16) ∷ l) (digits_more xs x)

-- two characters more, behind n of them
two_more : (text : List ℕ) (n a b : ℕ) → n + 1 < length text → take (n + 2) (set (set text n a) (n + 1) b) ≡ take n text ++ a ∷ b ∷ []
two_more text n a b h =
    let e : n + 2 ≡ n + 1 + 1 = omega arith in
    let l : n + 1 < length (set text n a) = simp length-set (omega arith) in
    let k : n < length text = omega arith in
    ap (λ (j : ℕ). take j (set (set text n a) (n + 1) b)) e ∙ take_more_set (set text n a) (n + 1) b l
    ∙ ap (λ (t : List ℕ). t ++ b ∷ []) (take_more_set text n a k) ∙ append_assoc (take n text) (a ∷ []) (b ∷ [])

module _ (group text : List ℕ) (i a b : ℕ) (front : List ℕ) (size : length group ≡ 33) (room : length text ≡ 67) (low : i < 32) where
  pub line_more : take (2 + 2 * i) text ≡ front ++ digits (take i (drop 1 group)) → a ≡ digit (get_or group (1 + i) 0 / 16) → b ≡ digit (get_or group (1 + i) 0 % 16)
      → take (2 + 2 * (i + 1)) (set (set text (2 + 2 * i) a) (3 + 2 * i) b) ≡ front ++ digits (take (i + 1) (drop 1 group))
  line_more h ea eb =
      let n : 2 + 2 * (i + 1) ≡ 2 + 2 * i + 2 = omega arith in
      let m : 3 + 2 * i ≡ 2 + 2 * i + 1 = omega arith in
      let l : i < length (drop 1 group) = simp length-drop (omega arith) in
      let x : ℕ = get_or group (1 + i) 0 in
      let more : digits (take (i + 1) (drop 1 group)) ≡ digits (take i (drop 1 group)) ++ digit (x / 16) ∷ digit (x % 16) ∷ [] =
      ap digits (take_more (drop 1 group) i 0 l ∙ ap (λ (y : ℕ). take i (drop 1 group) ++ y ∷ []) (get_or-drop 1 group i 0)) ∙ digits_more (take i (drop 1 group)) x in
      ap₂ (λ (j k : ℕ). take j (set (set text (2 + 2 * i) a) k b)) n m ∙ two_more text (2 + 2 * i) a b (omega arith)
      ∙ ap₂ (λ (u v : List ℕ). u ++ v) h (ap₂ (λ (y z : ℕ). y ∷ z ∷ []) ea eb)
      ∙ append_assoc front (digits (take i (drop 1 group))) (digit (x / 16) ∷ digit (x % 16) ∷ [])
      ∙ ap (λ (l : List ℕ). front ++ l) (sym more)

  pub line_end : drop 66 text ≡ 10 ∷ [] → drop 66 (set (set text (2 + 2 * i) a) (3 + 2 * i) b) ≡ 10 ∷ []
  line_end e =
      drop-set-lt 66 (set text (2 + 2 * i) a) (3 + 2 * i) b (omega arith) ∙ drop-set-lt 66 text (2 + 2 * i) a (omega arith) ∙ e
