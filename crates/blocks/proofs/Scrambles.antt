-- Laws of the scrambled stream.
use Rattle.std.proofs.Common.{◌≡◌, ℕ, suc, ◌+◌, ◌-◌, ◌<◌, ◌≤◌, List, [], ◌∷◌, ◌++◌, length, take, drop, sym, refl, ap, ◌∙◌, ap₂, inl, inr, arith}
use lib.Bits.{bit_xor, xor_assoc, xor_self, xor_zero_r}
use Rattle.std.proofs.lemmas.Nat.{xor_lt}
use Rattle.std.proofs.lemmas.List.{take-take, take-append-drop, drop_at, nil_from_length, length-take-le, length-drop}
use Rattle.std.proofs.lemmas.Bool.{cases_lt}
use Rattle.bits.specs.Bits.{nth, Binary}
use Rattle.bits.proofs.Binary.{binary_none, binary_cons, binary_take}
use Rattle.blocks.specs.Scrambled.{tapped, pushed, stream_bits, stream_after, what_came_in, what_went_out, scrambled_bits, scrambler_after, descrambled_bits, descrambler_after, InParts, Scrambling}

-- of any stream, whatever it remembers
module _ (kept : ℕ → ℕ → ℕ) where
  pub length-stream : (m xs : List ℕ) → length (stream_bits kept m xs) ≡ length xs
  unfolding stream_bits
  length-stream m [] = refl
  length-stream m (x ∷ xs) = ap suc (length-stream (pushed (kept x (tapped m x)) m) xs)

  gives : (m xs ys : List ℕ) → stream_bits kept m (xs ++ ys) ≡ stream_bits kept m xs ++ stream_bits kept (stream_after kept m xs) ys
  unfolding stream_bits stream_after
  gives m [] ys = refl
  gives m (x ∷ xs) ys = ap (λ (l : List ℕ). tapped m x ∷ l) (gives (pushed (kept x (tapped m x)) m) xs ys)

  leaves : (m xs ys : List ℕ) → stream_after kept m (xs ++ ys) ≡ stream_after kept (stream_after kept m xs) ys
  unfolding stream_after
  leaves m [] ys = refl
  leaves m (x ∷ xs) ys = leaves (pushed (kept x (tapped m x)) m) xs ys

  pub in_parts : InParts (stream_bits kept) (stream_after kept)
  in_parts = record { gives = gives; leaves = leaves }

pub length-scrambled : (m xs : List ℕ) → length (scrambled_bits m xs) ≡ length xs
length-scrambled m xs = length-stream what_went_out m xs

pub length-descrambled : (m ys : List ℕ) → length (descrambled_bits m ys) ≡ length ys
length-descrambled m ys = length-stream what_came_in m ys

pub scrambled-append : (m xs ys : List ℕ) → scrambled_bits m (xs ++ ys) ≡ scrambled_bits m xs ++ scrambled_bits (scrambler_after m xs) ys
scrambled-append m xs ys = gives what_went_out m xs ys

pub after-append : (m xs ys : List ℕ) → scrambler_after m (xs ++ ys) ≡ scrambler_after (scrambler_after m xs) ys
after-append m xs ys = leaves what_went_out m xs ys

-- no bits leave a memory as it was
pub after-none : (m : List ℕ) → scrambler_after m [] ≡ m
unfolding stream_after
after-none m = refl

-- bits on a memory of bits give bits
pub binary_scrambled : (m xs : List ℕ) → Binary m → Binary xs → Binary (scrambled_bits m xs)
unfolding stream_bits
binary_scrambled m [] h g = binary_none
binary_scrambled m (x ∷ xs) h g =
    let y : ℕ = tapped m x in
    let small : y < 2 = xor_lt 1 x (bit_xor (nth m 38) (nth m 57)) (g 0) (xor_lt 1 (nth m 38) (nth m 57) (h 38) (h 57)) in
    binary_cons y _ small (binary_scrambled (pushed y m) xs (binary_cons y (take 57 m) small (binary_take 57 m h)) (λ i. g (suc i)))

pub cancel : (a b : ℕ) → bit_xor (bit_xor a b) b ≡ a
cancel a b = xor_assoc a b b ∙ ap (bit_xor a) (xor_self b) ∙ xor_zero_r a

undone : (m xs : List ℕ) → descrambled_bits m (scrambled_bits m xs) ≡ xs
unfolding stream_bits
undone m [] = refl
undone m (x ∷ xs) = ap₂ (λ (b : ℕ) (l : List ℕ). b ∷ l) (cancel x (bit_xor (nth m 38) (nth m 57))) (undone (pushed (tapped m x) m) xs)

same_memory : (m xs : List ℕ) → descrambler_after m (scrambled_bits m xs) ≡ scrambler_after m xs
unfolding stream_bits stream_after
same_memory m [] = refl
same_memory m (x ∷ xs) = same_memory (pushed (tapped m x) m) xs

-- memories whose k newest bits are the same, and 58 - k bits more come in
alike : (k : ℕ) (m other ys : List ℕ) → take k m ≡ take k other → k < 58 → 58 ≤ k + length ys → descrambler_after m ys ≡ descrambler_after other ys
unfolding stream_after
alike k m other [] e h l = absurd (omega arith)
alike k m other (y ∷ ys) e h l = elim (cases_lt k 57) [
  | inl s ↦
      let cut : (n : List ℕ) → take k (take 57 n) ≡ take k n = λ n. take-take k 57 n (omega arith) in
      alike (suc k) (pushed y m) (pushed y other) ys (ap (λ (l : List ℕ). y ∷ l) (cut m ∙ e ∙ sym (cut other))) (omega arith) (omega arith)
  | inr s ↦
      let k57 : k ≡ 57 = omega arith in
      ap (λ (l : List ℕ). descrambler_after (y ∷ l) ys) (rw k57 at e)
]

forgets : (m other ys : List ℕ) → 58 ≤ length ys → descrambler_after m ys ≡ descrambler_after other ys
forgets m other ys l = alike 0 m other ys refl (omega arith) (omega arith)

-- from the 59th bit on, what is read back does not depend on the memory
late : (m other ys : List ℕ) (n : ℕ) → 58 ≤ n → drop n (descrambled_bits m ys) ≡ drop n (descrambled_bits other ys)
late m other ys n l = elim (cases_lt (length ys) n) [
  | inl s ↦
      let none : (o : List ℕ) → drop n (descrambled_bits o ys) ≡ [] = λ o. nil_from_length _ (length-drop n _ ∙ ap (λ (k : ℕ). k - n) (length-descrambled o ys) ∙ omega arith) in
      none m ∙ sym (none other)
  | inr s ↦
      let front : List ℕ = take n ys in
      let long : length front ≡ n = length-take-le n ys (omega arith) in
      let cut : (o : List ℕ) → drop n (descrambled_bits o ys) ≡ descrambled_bits (descrambler_after o front) (drop n ys) = λ o.
      ap (λ (zs : List ℕ). drop n (descrambled_bits o zs)) (sym (take-append-drop n ys))
      ∙ ap (drop n) (gives what_came_in o front (drop n ys))
      ∙ drop_at (descrambled_bits o front) _ n (length-descrambled o front ∙ long) in
      cut m ∙ ap (λ (o : List ℕ). descrambled_bits o (drop n ys)) (forgets m other front (omega arith)) ∙ sym (cut other)
]

pub scrambling : Scrambling
scrambling = record {
  undone = undone;
  same_memory = same_memory;
  settles = λ m other xs n l. late other m (scrambled_bits m xs) n l ∙ ap (drop n) (undone m xs);
  follows = λ m other xs l. forgets other m (scrambled_bits m xs) (omega (arith, length-scrambled m xs)) ∙ same_memory m xs;
  forgets = forgets;
  out_in_parts = in_parts what_went_out;
  back_in_parts = in_parts what_came_in;
}
