-- The division by the generator leaves a remainder that makes the message a codeword, and the only one.
use Rattle.std.proofs.Common.{◌≡◌, ℕ, suc, ◌+◌, ◌-◌, ◌%◌, ◌<◌, List, ◌++◌, length, get_or, take, length-append, sym, refl, ap, ◌∙◌, ap₂, add-one, arith, lit<, ext_get_or}
use native.Mathlib.Decide.{dec_lt}
use lib.Bits.{bit_xor, xor_lt}
use lib.ListN.{get_or-eq_default}
use Rattle.std.proofs.lemmas.List.{length-take-le, get_or-take, get_or_append_left, get_or-append-add}
use Rattle.field.specs.Sums.{pow, word_value}
use Rattle.field.proofs.Algebra.{zero-times, spread_right}
use Rattle.field.proofs.Sums.{sum-zero}
use Rattle.field.proofs.WordValues.{value_same, value_next, value-joined, register_step}
use Rattle.gf1024.specs.declared.element.Element.{Element}
use Rattle.polynomials.specs.Product.{times}
use Rattle.gf1024.specs.Field.{group, ring, alpha, element}
use Rattle.gf1024.specs.Elements.{same}
use Rattle.gf1024.proofs.Powers.{laws}
use Rattle.code.specs.Code.{Codeword, distance}
use Rattle.code.specs.Laws.{Encoded}
use Rattle.code.specs.Lifting.{symbol}
use Rattle.code.specs.Division.{tap, Register, Shifted, raised, Remainder}
use Rattle.code.proofs.Counting.{count_behind}
use Rattle.code.proofs.Far.{far_apart}
use Rattle.code.proofs.Generator.{tap-small, taps}
use Rattle.code.proofs.Lifted.{small_is, value_is}
use Rattle.code.proofs.Shifting.{still_register}

infixl 60 ◌⊕◌
infixl 70 ◌⊗◌
abbrev ◌⊕◌ : Element → Element → Element
x ⊕ y = group.plus x y

abbrev ◌⊗◌ : Element → Element → Element
x ⊗ y = ring.times x y

-- at first the register is zero
pub remainder_none : (m register : List ℕ) → length register ≡ 33 → ((i : ℕ) → i < 33 → get_or register i 0 ≡ 0) → Remainder m 0 register
unfolding raised word_value
remainder_none m register size h = record {
  register = record { size = size; small = λ i. rw (none i (dec_lt i 33)) (lit< tt); behind = λ i l. none i (dec_lt i 33) };
  value = λ k l. zero-value 30 k ∙ sym (zero-times group ring laws.field (pow ring (pow ring alpha k) 30));
}
  where
    none : (i : ℕ) → Dec (i < 33) → get_or register i 0 ≡ 0
    none i (yes l) = h i l
    none i (no l) = get_or-eq_default register 0 (omega arith)

    zero-value : (n k : ℕ) → word_value group ring n (symbol register) (pow ring alpha k) ≡ group.zero
    zero-value n k =
        sum-zero group ring laws.field n (λ i. symbol register i ⊗ pow ring (pow ring alpha k) (n - 1 - i))
        (λ i l. ap (λ z. z ⊗ pow ring (pow ring alpha k) (n - 1 - i)) (same (symbol register i) group.zero (ap (λ x. x % 1024) (none i (dec_lt i 33)))) ∙ zero-times group ring laws.field (pow ring (pow ring alpha k) (n - 1 - i)))

-- one symbol more
module _ (m : List ℕ) (n : ℕ) (old new : List ℕ) (small : get_or m n 0 < 1024) (size : length new ≡ 33) (r : Remainder m n old) (s : Shifted old (bit_xor (get_or m n 0) (get_or old 0 0)) 32 new) where
  still : Register new
  still = still_register old new (bit_xor (get_or m n 0) (get_or old 0 0)) 32 (xor_lt 10 (get_or m n 0) (get_or old 0 0) small (r.register.small 0)) r.register size s

  stepped : (j : ℕ) → j < 30 → symbol new j ≡ symbol old (suc j) ⊕ (symbol m n ⊕ symbol old 0) ⊗ element (tap j)
  stepped j l =
      same _ _
      (small_is (get_or new j 0) (still.small j) ∙ s.step j (omega arith)
      ∙ ap₂ bit_xor (sym (small_is (get_or old (j + 1) 0) (r.register.small (j + 1))) ∙ ap (λ i. get_or old i 0 % 1024) (add-one j))
      (ap₂ times (ap₂ bit_xor (sym (small_is (get_or m n 0) small)) (sym (small_is (get_or old 0 0) (r.register.small 0)))) (sym (small_is (tap j) (tap-small j l)))))

  next : (x : Element) → word_value group ring 30 (λ j. element (tap j)) x ≡ pow ring x 30 → word_value group ring 30 (symbol old) x ≡ word_value group ring n (symbol m) x ⊗ pow ring x 30
      → word_value group ring 30 (symbol new) x ≡ word_value group ring (n + 1) (symbol m) x ⊗ pow ring x 30
  next x ht hr =
      let p : Element = pow ring x 30 in
      let f : Element = word_value group ring n (symbol m) x in
      let a : Element = symbol m n in
      let last : symbol old 30 ≡ group.zero = same (symbol old 30) group.zero (ap (λ x. x % 1024) (r.register.behind 30 (omega arith))) in
      register_step group ring laws.field 30 (symbol old) (symbol new) (λ j. element (tap j)) a x last stepped ht
      ∙ ap (λ z. z ⊕ a ⊗ p) (ap (λ z. z ⊗ x) hr ∙ laws.field.assoc f p x ∙ ap (λ z. f ⊗ z) (laws.field.comm p x) ∙ sym (laws.field.assoc f x p))
      ∙ sym (spread_right group ring laws.field (f ⊗ x) a p)
      ∙ ap (λ z. z ⊗ p) (value_next group ring laws.field n (symbol m) x ∙ ap (λ i. word_value group ring i (symbol m) x) (sym (add-one n)))

  pub remainder_next : Remainder m (n + 1) new
  unfolding raised
  remainder_next = record { register = still; value = λ k l. next (pow ring alpha k) (taps k l) (r.value k l) }

-- only the first symbols count
pub remainder_front : (m r : List ℕ) → Remainder (take 514 m) 514 r → Remainder m 514 r
unfolding raised
remainder_front m r h = record {
  register = h.register;
  value = λ k l.
      h.value k l
      ∙ ap (λ z. z ⊗ pow ring (pow ring alpha k) 30) (value_same group ring 514 (symbol (take 514 m)) (symbol m) (pow ring alpha k) (λ i q. ap element (get_or-take 514 m i 0 q)));
}

-- the word: the message, and the remainder behind it
module _ (m register word : List ℕ) (size_m : length m ≡ 514) (small_m : (i : ℕ) → i < 514 → get_or m i 0 < 1024) (rem : Remainder m 514 register) (is : word ≡ m ++ take 30 register) where
  first : (i : ℕ) → i < 514 → get_or word i 0 ≡ get_or m i 0
  first i l = ap (λ w. get_or w i 0) is ∙ get_or_append_left m (take 30 register) 0 i (omega arith)

  back : (j : ℕ) → j < 30 → get_or word (514 + j) 0 ≡ get_or register j 0
  back j l =
      ap (λ w. get_or w (514 + j) 0) is
      ∙ ap (λ n. get_or (m ++ take 30 register) (n + j) 0) (sym size_m)
      ∙ get_or-append-add m (take 30 register) j 0
      ∙ get_or-take 30 register j 0 l

  size : length word ≡ 544
  size =
      let e : length word ≡ length m + length (take 30 register) = ap length is ∙ length-append m (take 30 register) in
      let t : length (take 30 register) ≡ 30 = length-take-le 30 register (let s = rem.register.size in omega arith) in
      omega arith

  small : (i : ℕ) → i < 544 → get_or word i 0 < 1024
  small i l = go (dec_lt i 514)
    where
      go : Dec (i < 514) → get_or word i 0 < 1024
      go (yes q) = rw (first i q) (small_m i q)
      go (no q) =
          let e : 514 + (i - 514) ≡ i = omega arith in
          let at_back : get_or word i 0 ≡ get_or register (i - 514) 0 = ap (λ k. get_or word k 0) (sym e) ∙ back (i - 514) (omega arith) in
          rw at_back (rem.register.small (i - 514))

  value-zero : (k : ℕ) → k < 30 → word_value group ring 544 (symbol word) (pow ring alpha k) ≡ group.zero
  unfolding raised
  value-zero k l =
      let x : Element = pow ring alpha k in
      value-joined group ring laws.field 514 30 (symbol word) x
      ∙ ap₂ (λ a b. a ⊗ pow ring x 30 ⊕ b)
      (value_same group ring 514 (symbol word) (symbol m) x (λ i h. ap element (first i h)))
      (value_same group ring 30 (λ j. symbol word (514 + j)) (symbol register) x (λ j h. ap element (back j h)) ∙ rem.value k l)
      ∙ laws.field.adds.opposite (raised m 514 k)

  codeword : Codeword word
  codeword = record {
    formed = record { size = size; symbols = small };
    roots = λ k l. sym (value_is 544 word (symbol word) size small (λ i h. refl) k) ∙ ap (λ (x : Element). x.value) (value-zero k l);
  }

  begins : take 514 word ≡ m
  begins =
      let long : length (take 514 word) ≡ 514 = length-take-le 514 word (let s = size in omega arith) in
      ext_get_or 0 (take 514 word) m (long ∙ sym size_m) (λ i l. get_or-take 514 word i 0 (omega arith) ∙ first i (let s = long in omega arith))

  only : (c : List ℕ) → Codeword c → take 514 c ≡ m → c ≡ word
  unfolding distance
  only c code same_front =
      far_apart.distinct c word code codeword
      (count_behind 514 30 (λ i. get_or c i 0) (λ i. get_or word i 0)
      (λ i l. sym (get_or-take 514 c i 0 l) ∙ ap (λ xs. get_or xs i 0) same_front ∙ sym (first i l)))

  pub encoded : Encoded m word
  encoded = record { codeword = codeword; begins = begins; only = only }
