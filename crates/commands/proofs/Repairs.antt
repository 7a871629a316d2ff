-- What the command `repair` has done after one step more.
use Rattle.std.proofs.Common.{get_or, subst, Ok, lit<, length, length-append, ◌<◌, ◌≡◌, ℕ, zero, suc, ◌*◌, ◌+◌, ◌/◌, ◌%◌, List, [], ◌∷◌, ◌++◌, set, slice_index, bit_xor, ap, ap₂, ◌∙◌, sym, refl, append_assoc, append-nil, add-one, arith}
use Rattle.std.proofs.Math.Nat.{mod-lt}
use Rattle.std.specs.Result.{result_map_both, result_unwrap_or}
use Rattle.code.specs.Answers.{encoding, encode_answer, encoded_word}
use Rattle.code.specs.Code.{codeword_of}
use Rattle.code.proofs.Encodings.{encoding-message}
use Rattle.commands.specs.Repair.{sent_word, drawn, number_after, next_number, symbols, place_of, damaged, damage_lines, symbol_line}

pub next_is : (n : ℕ) → number_after (n + 1) ≡ next_number (number_after n)
unfolding number_after
next_is n = ap number_after (add-one n)

pub number_first : 1 ≡ number_after 0
unfolding number_after
number_first = refl

pub symbols_first : symbols 0 ≡ []
unfolding symbols
symbols_first = refl

pub symbols_next : (n x : ℕ) → x ≡ number_after (n + 1) / 4194304 → symbols (n + 1) ≡ symbols n ++ x ∷ []
unfolding symbols
symbols_next n x h = ap symbols (add-one n) ∙ ap (λ y. symbols n ++ y ∷ []) (sym (h ∙ ap (λ m. number_after m / 4194304) (add-one n)))

-- a step of the damage: the word, the sequence and the text before and after it, where x was drawn
pub record Stepped (w : List ℕ) (before text word : List ℕ) (number n : ℕ) : Type 0 where
  pub word_is : word ≡ damaged w n
  pub text_is : text ≡ before ++ damage_lines w n
  pub number_is : number ≡ number_after (514 + n)

pub stepped_first : (w text : List ℕ) (number : ℕ) → number ≡ number_after 514 → Stepped w text text w number 0
unfolding damaged damage_lines
stepped_first w text number h = record { word_is = refl; text_is = sym (append-nil text); number_is = h }

pub stepped_next : (w before text word later_text later_word : List ℕ) (number later n : ℕ) → Stepped w before text word number n
    → later ≡ next_number number
    → later_word ≡ set word (place_of n) (bit_xor (slice_index word (place_of n)) (1 + later / 4194304 % 1023))
    → later_text ≡ text ++ symbol_line (place_of n) (slice_index word (place_of n)) (slice_index later_word (place_of n))
    → Stepped w before later_text later_word later (n + 1)
unfolding damaged damage_lines
stepped_next w before text word later_text later_word number later n s l e t =
    let number_is : later ≡ number_after (suc (514 + n)) = l ∙ ap next_number s.number_is ∙ sym (next_is (514 + n)) ∙ ap number_after (add-one (514 + n)) in
    let word_is : later_word ≡ damaged w (suc n) =
    e ∙ ap₂ (λ v x. set v (place_of n) (bit_xor (slice_index v (place_of n)) (1 + x / 4194304 % 1023))) s.word_is number_is in
    record {
      word_is = word_is ∙ ap (damaged w) (sym (add-one n));
      text_is = t ∙ ap₂ (λ a v. a ++ symbol_line (place_of n) (slice_index v (place_of n)) (slice_index later_word (place_of n))) s.text_is s.word_is
          ∙ ap (λ v. (before ++ damage_lines w n) ++ symbol_line (place_of n) (slice_index (damaged w n) (place_of n)) (slice_index v (place_of n))) word_is
          ∙ append_assoc before (damage_lines w n) _ ∙ ap (λ m. before ++ damage_lines w m) (sym (add-one n));
      number_is = number_is ∙ ap number_after (omega arith);
    }

numbers_small : (n : ℕ) → number_after n < 4294967296
unfolding number_after
numbers_small zero = lit< tt
numbers_small (suc n) = mod-lt (number_after n * 1664525 + 1013904223) (lit< tt)

drawn_small : (n : ℕ) → drawn n < 1024
drawn_small n = omega (arith, numbers_small (suc n))

length_symbols : (n : ℕ) → length (symbols n) ≡ n
unfolding symbols
length_symbols zero = refl
length_symbols (suc n) = omega (arith, length-append (symbols n) (drawn n ∷ []), length_symbols n)

pushed_small : (xs : List ℕ) (x : ℕ) → x < 1024 → ((i : ℕ) → get_or xs i 0 < 1024) → (i : ℕ) → get_or (xs ++ x ∷ []) i 0 < 1024
pushed_small [] x h f zero = h
pushed_small [] x h f (suc i) = f i
pushed_small (y ∷ ys) x h f zero = f 0
pushed_small (y ∷ ys) x h f (suc i) = pushed_small ys x h (λ k. f (suc k)) i

symbols_small : (n i : ℕ) → get_or (symbols n) i 0 < 1024
unfolding symbols
symbols_small zero i = omega arith
symbols_small (suc n) i = pushed_small (symbols n) (drawn n) (drawn_small n) (symbols_small n) i

pub message_encoded : (m w : List ℕ) → m ≡ symbols 514 → length w ≡ 544 → (encode_answer m w ≡ Ok tt) × (encoded_word m w ≡ sent_word)
message_encoded m w h size =
    let e : encoding m w ≡ Ok (codeword_of m) = encoding-message m w size (ap length h ∙ length_symbols 514) (λ i l. subst (λ s. get_or s i 0 < 1024) (sym h) (symbols_small 514 i)) in
    (ap (λ r. result_map_both (λ c. tt) (λ e. e) r) e, ap (λ r. result_unwrap_or r w) e ∙ ap codeword_of h)
