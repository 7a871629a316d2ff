-- The remainder of a word has its values at the roots, so it is zero if and only if the word is a codeword.
use Rattle.std.proofs.Common.{◌≡◌, ℕ, zero, suc, ◌+◌, ◌-◌, ◌%◌, ◌<◌, ◌≤◌, Bool, true, false, ◌⊎◌, List, [], ◌∷◌, length, get_or, set, take, drop, length-drop, reverse, MatchBool, sym, refl, ap, ◌∙◌, ap₂, inl, inr, ⊎_elim, le_of_suc-le-suc, not-suc-le-zero, eq-or-lt_of_le, arith, get_or-set_other, get_or-set_same}
use native.Mathlib.Decide.{dec_lt}
use lib.Bits.{bit_xor, xor_lt}
use Rattle.std.specs.List.{AllWithin, HoldsAt}
use Rattle.std.proofs.lemmas.List.{length-set, length-take-le, get_or-take, get_or-drop, get_or-reverse}
use Rattle.field.specs.Places.{Among}
use Rattle.field.specs.Sums.{pow, word_value}
use Rattle.field.proofs.Algebra.{spread_right, zero-times}
use Rattle.field.proofs.Sums.{sum_same, sum_plus, sum-zero}
use Rattle.field.proofs.Vandermonde.{all_zero}
use Rattle.field.proofs.WordValues.{value_same, value-joined, syndrome-value}
use Rattle.decoder.specs.Words.{Values, falling}
use Rattle.gf1024.specs.declared.element.Element.{Element}
use Rattle.gf1024.specs.Field.{group, ring, alpha, element}
use Rattle.gf1024.specs.Elements.{same}
use Rattle.gf1024.proofs.Powers.{laws}
use Rattle.code.specs.Code.{WellFormed, Codeword}
use Rattle.code.specs.Lifting.{at, symbol, RootsOf, Falling}
use Rattle.code.specs.Division.{raised, Register, Remainder, Joined, WordRemainder, NoRemainder, RegisterValues, WordSyndromes}
use Rattle.code.proofs.Lifted.{small_is, equal_symbols, point, points_apart, value_is}

infixl 60 ◌⊕◌
infixl 70 ◌⊗◌
abbrev ◌⊕◌ : Element → Element → Element
x ⊕ y = group.plus x y

abbrev ◌⊗◌ : Element → Element → Element
x ⊗ y = ring.times x y

value_plus : (n : ℕ) (c d : ℕ → Element) (x : Element) → word_value group ring n (λ j. c j ⊕ d j) x ≡ word_value group ring n c x ⊕ word_value group ring n d x
unfolding word_value
value_plus n c d x =
    sum_same group n (λ j. (c j ⊕ d j) ⊗ pow ring x (n - 1 - j)) (λ j. c j ⊗ pow ring x (n - 1 - j) ⊕ d j ⊗ pow ring x (n - 1 - j)) (λ j l. spread_right group ring laws.field (c j) (d j) (pow ring x (n - 1 - j)))
    ∙ sum_plus group ring laws.field n (λ j. c j ⊗ pow ring x (n - 1 - j)) (λ j. d j ⊗ pow ring x (n - 1 - j))

value_none : (n : ℕ) (c : ℕ → Element) (x : Element) → ((i : ℕ) → i < n → c i ≡ group.zero) → word_value group ring n c x ≡ group.zero
unfolding word_value
value_none n c x h =
    sum-zero group ring laws.field n (λ i. c i ⊗ pow ring x (n - 1 - i))
    (λ i l. ap (λ z. z ⊗ pow ring x (n - 1 - i)) (h i l) ∙ zero-times group ring laws.field (pow ring x (n - 1 - i)))

-- the symbols behind the message
pub back_length : (w : List ℕ) → length w ≡ 544 → length (take 30 (drop 514 w)) ≡ 30
back_length w size = length-take-le 30 (drop 514 w) (let e = length-drop 514 w in omega arith)

pub back_at : (w : List ℕ) (j : ℕ) → j < 30 → get_or (take 30 (drop 514 w)) j 0 ≡ get_or w (514 + j) 0
back_at w j l = get_or-take 30 (drop 514 w) j 0 l ∙ get_or-drop 514 w j 0

-- one symbol more is added to the register
pub joined_next : (w old now : List ℕ) (j : ℕ) → j < 30 → Joined w old j now → Joined w old (j + 1) (set now j (bit_xor (get_or now j 0) (get_or w (514 + j) 0)))
joined_next w old now j l h = record {
  size = length-set now j (bit_xor (get_or now j 0) (get_or w (514 + j) 0)) ∙ h.size;
  front = λ i q. go i (eq-or-lt_of_le (let z : i ≤ j = omega arith in z));
  rest = λ i q. get_or-set_other now j i (bit_xor (get_or now j 0) (get_or w (514 + j) 0)) 0 (λ e. (omega arith)) ∙ h.rest i (omega arith);
}
  where
    here : get_or (set now j (bit_xor (get_or now j 0) (get_or w (514 + j) 0))) j 0 ≡ bit_xor (get_or old j 0) (get_or w (514 + j) 0)
    here = get_or-set_same now j (bit_xor (get_or now j 0) (get_or w (514 + j) 0)) 0 (let s = h.size in omega arith) ∙ ap (λ x. bit_xor x (get_or w (514 + j) 0)) (h.rest j (omega arith))

    go : (i : ℕ) → (i ≡ j) ⊎ (i < j) → get_or (set now j (bit_xor (get_or now j 0) (get_or w (514 + j) 0))) i 0 ≡ bit_xor (get_or old i 0) (get_or w (514 + i) 0)
    go i (inl e) = rw e here
    go i (inr q) = get_or-set_other now j i (bit_xor (get_or now j 0) (get_or w (514 + j) 0)) 0 (λ e. (omega arith)) ∙ h.front i q

-- the symbols behind the message are added to its remainder
module _ (w old new : List ℕ) (formed : WellFormed w) (r : Remainder w 514 old) (joined : Joined w old 30 new) where
  small : (j : ℕ) → j < 30 → get_or new j 0 < 1024
  small j l = rw (joined.front j l) (xor_lt 10 (get_or old j 0) (get_or w (514 + j) 0) (r.register.small j) (formed.symbols (514 + j) (omega arith)))

  added : (j : ℕ) → j < 30 → symbol new j ≡ symbol old j ⊕ symbol w (514 + j)
  added j l =
      same _ _
      (small_is (get_or new j 0) (small j l) ∙ joined.front j l
      ∙ ap₂ bit_xor (sym (small_is (get_or old j 0) (r.register.small j))) (sym (small_is (get_or w (514 + j) 0) (formed.symbols (514 + j) (omega arith)))))

  -- and it stays a register
  pub joined_register : Register new
  joined_register = record { size = joined.size; small = λ i. below i (dec_lt i 30); behind = λ i l. joined.rest i l ∙ r.register.behind i l }
    where
      below : (i : ℕ) → Dec (i < 30) → get_or new i 0 < 1024
      below i (yes l) = small i l
      below i (no l) = rw (joined.rest i (omega arith)) (r.register.small i)

  pub word_remainder : WordRemainder w new
  unfolding raised
  word_remainder = record {
    size = joined.size;
    small = small;
    value = λ k l.
        value_same group ring 30 (symbol new) (λ j. symbol old j ⊕ symbol w (514 + j)) (pow ring alpha k) added
        ∙ value_plus 30 (symbol old) (λ j. symbol w (514 + j)) (pow ring alpha k)
        ∙ ap (λ z. z ⊕ word_value group ring 30 (λ j. symbol w (514 + j)) (pow ring alpha k)) (r.value k l)
        ∙ sym (value-joined group ring laws.field 514 30 (symbol w) (pow ring alpha k));
  }

-- the places below n
below : ℕ → List ℕ
below zero = []
below (suc n) = n ∷ below n

below_length : (n : ℕ) → length (below n) ≡ n
unfolding below
below_length zero = refl
below_length (suc n) = ap suc (below_length n)

among_below : (n i : ℕ) → i < n → Among i (below n)
unfolding below
among_below zero i l = absurd (not-suc-le-zero l)
among_below (suc n) i l = ⊎_elim (λ e. inl e) (λ q. inr (among_below n i q)) (eq-or-lt_of_le (le_of_suc-le-suc l))

-- a word of n symbols with n roots is zero
all_roots : (n : ℕ) (c : ℕ → Element) → n < 1024 → ((k : ℕ) → k < n → word_value group ring n c (pow ring alpha k) ≡ group.zero) → (i : ℕ) → i < n → c i ≡ group.zero
all_roots n c h zero_at =
    all_zero group ring laws.field n (point n) (points_apart n h) (below n) c (λ i l. inr (among_below n i l))
    (λ k l. syndrome-value group ring laws.field n c (point n) alpha k (λ i q. refl) ∙ zero_at k (let e = below_length n in omega arith))

module _ (w r : List ℕ) (formed : WellFormed w) (is : WordRemainder w r) where
  none : Codeword w → NoRemainder r
  none code j l = equal_symbols (get_or r j 0) 0 (is.small j l) (omega arith) (all_roots 30 (symbol r) (omega arith) zeros j l ∙ same group.zero (element 0) refl)
    where
      zeros : (k : ℕ) → k < 30 → word_value group ring 30 (symbol r) (pow ring alpha k) ≡ group.zero
      zeros k q = is.value k q ∙ same _ _ (value_is 544 w (symbol w) formed.size formed.symbols (λ i h. refl) k ∙ code.roots k q)

  pub codeword : NoRemainder r → Codeword w
  codeword h = record {
    formed = formed;
    roots = λ k l.
        sym (value_is 544 w (symbol w) formed.size formed.symbols (λ i q. refl) k)
        ∙ ap (λ (x : Element). x.value) (sym (is.value k l) ∙ value_none 30 (symbol r) (pow ring alpha k) (λ i q. same (symbol r i) group.zero (ap (λ x. x % 1024) (h i q))));
  }

  pub decides : (b : Bool) → MatchBool b (NoRemainder r) (NoRemainder r → ⊥) → MatchBool b (Codeword w) (Codeword w → ⊥)
  decides true h = codeword h
  decides false h = λ code. h (none code)

-- the test of the first thirty symbols
pub zero_answer : (b : Bool) (r : List ℕ) → length r ≡ 33
    → MatchBool b (AllWithin (λ x. x ≡ 0) (take 30 r) 0 (length (take 30 r))) ((k : ℕ) × (k < length (take 30 r)) × HoldsAt (λ x. x ≡ 0 → ⊥) (take 30 r) k)
    → MatchBool b (NoRemainder r) (NoRemainder r → ⊥)
zero_answer true r size h = λ j l.
    let long : length (take 30 r) ≡ 30 = length-take-le 30 r (omega arith) in
    sym (get_or-take 30 r j 0 l) ∙ h j 0 (omega arith) (omega arith)
zero_answer false r size h = λ none.
    let long : length (take 30 r) ≡ 30 = length-take-le 30 r (omega arith) in
    h.2 0 (get_or-take 30 r h.0 0 (let l = h.1 in omega arith) ∙ none h.0 (let l = h.1 in omega arith))

-- the values of the register's symbols, given the lowest first
pub register_values : (r : List ℕ) (es xs s : List Element) → Falling r 30 es → RootsOf 30 xs → length xs ≡ 30 → Values group ring (falling group es 30) 30 xs (length xs) s → RegisterValues r s
register_values r es xs s f roots size h k l =
    h k (omega arith)
    ∙ value_same group ring 30 (falling group es 30) (symbol r) (at xs k) (λ t q. f (30 - 1 - t) (omega arith) ∙ ap (symbol r) (let e : 29 - (30 - 1 - t) ≡ t = omega arith in e))
    ∙ ap (word_value group ring 30 (symbol r)) (roots k l)

-- the elements of the thirty symbols, turned round
pub turned : (r : List ℕ) (es : List Element) → length es ≡ 30 → ((i : ℕ) → i < 30 → at es i ≡ symbol r i) → Falling r 30 (reverse es)
turned r es size is j l =
    get_or-reverse es j group.zero (omega arith)
    ∙ ap (λ i. at es i) (let e : length es - 1 - j ≡ 29 - j = omega arith in e)
    ∙ is (29 - j) (omega arith)

-- they are those of the word
pub word_values : (w r : List ℕ) (s : List Element) → WordRemainder w r → RegisterValues r s → WordSyndromes w s
word_values w r s is h k l = h k l ∙ is.value k l
