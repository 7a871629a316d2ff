-- The codeword that begins with a message is the one that its definition searches for.
use Rattle.std.proofs.Common.{◌≡◌, ℕ, zero, suc, ◌+◌, ◌<◌, Bool, true, eqb, ◌⊎◌, List, [], ◌∷◌, ◌++◌, length, get_or, drop, replicate, Some, None, Option, sym, refl, ap, ◌∙◌, ap₂, inl, inr, le_of_suc-le-suc, eq-or-lt_of_le, arith, lit<}
use native.Mathlib.Decide.{dec_lt}
use lib.ListN.{get_or-eq_default, get_or-replicate}
use Rattle.std.specs.Option.{unwrap_or}
use Rattle.std.proofs.lemmas.List.{length-append, length-take-le, length-drop, take-append-drop, take_at, get_or-take, get_or-drop}
use Rattle.std.proofs.lemmas.Bool.{both_ways, and_from, and_parts, eq-eqb, eqb-true}
use Rattle.code.specs.Code.{root, value, Codeword, message_of, zero_at, first_list, codeword_of}
use Rattle.code.proofs.Lists.{first_some, first_none}

pub zero_at_true : (w : List ℕ) (n : ℕ) → ((k : ℕ) → k < n → value w (root k) ≡ 0) → zero_at w n ≡ true
unfolding zero_at
zero_at_true w zero h = refl
zero_at_true w (suc n) h = and_from _ _ (eq-eqb (value w (root n)) 0 (h n (omega arith))) (zero_at_true w n (λ k l. h k (omega arith)))

pub zero_at_roots : (w : List ℕ) (n : ℕ) → zero_at w n ≡ true → (k : ℕ) → k < n → value w (root k) ≡ 0
unfolding zero_at
zero_at_roots w zero e k l = absurd (omega arith)
zero_at_roots w (suc n) e k l = let p = and_parts _ _ e in go (zero_at_roots w n p.1 k) p.0 (eq-or-lt_of_le (le_of_suc-le-suc l))
  where
    go : (k < n → value w (root k) ≡ 0) → eqb (value w (root n)) 0 ≡ true → (k ≡ n) ⊎ (k < n) → value w (root k) ≡ 0
    go ih t (inl q) = rw q (eqb-true (value w (root n)) 0 t)
    go ih t (inr q) = ih q

-- a read past the end of a list gives zero
pub all_small : (s : List ℕ) → ((i : ℕ) → i < length s → get_or s i 0 < 1024) → (i : ℕ) → get_or s i 0 < 1024
all_small s h i = go (dec_lt i (length s))
  where
    go : Dec (i < length s) → get_or s i 0 < 1024
    go (yes l) = h i l
    go (no l) = let e : get_or s i 0 ≡ 0 = get_or-eq_default s 0 (omega arith) in rw e (lit< tt)

append-small : (a b : List ℕ) → ((i : ℕ) → get_or a i 0 < 1024) → ((i : ℕ) → get_or b i 0 < 1024) → (i : ℕ) → get_or (a ++ b) i 0 < 1024
append-small [] b p q i = q i
append-small (x ∷ a) b p q zero = p 0
append-small (x ∷ a) b p q (suc i) = append-small a b (λ k. p (suc k)) q i

-- thirty symbols behind a message
module _ (m : List ℕ) (size : length m ≡ 514) (t : List ℕ) (long : length t ≡ 30) where
  behind-length : length (m ++ t) ≡ 544
  behind-length = length-append m t ∙ ap₂ ◌+◌ size long

  behind_begins : message_of (m ++ t) ≡ m
  behind_begins = take_at m t 514 size

  behind_codeword : ((i : ℕ) → get_or m i 0 < 1024) → ((i : ℕ) → get_or t i 0 < 1024) → zero_at (m ++ t) 30 ≡ true → Codeword (m ++ t)
  behind_codeword small low e = record {
    formed = record { size = behind-length; symbols = λ i l. append-small m t small low i };
    roots = zero_at_roots (m ++ t) 30 e;
  }

-- the thirty symbols that the definition puts behind a message
module _ (f : List ℕ → Bool) where
  tail : List ℕ
  tail = unwrap_or (first_list 30 f) (replicate 30 0)

  thirty : (length tail ≡ 30) × ((i : ℕ) → get_or tail i 0 < 1024)
  unfolding tail
  thirty = split (first_list 30 f) refl
    where
      split : (o : Option (List ℕ)) → first_list 30 f ≡ o → (length (unwrap_or o (replicate 30 0)) ≡ 30) × ((i : ℕ) → get_or (unwrap_or o (replicate 30 0)) i 0 < 1024)
      split None p = (refl, all_small (replicate 30 0) (λ i l. rw (get_or-replicate {A = ℕ} 30 i 0 0 l) (lit< tt)))
      split (Some s) p = let t = first_some 30 f s p in (t.1, t.2)

pub message_begins : (m : List ℕ) → length m ≡ 514 → message_of (codeword_of m) ≡ m
unfolding codeword_of tail
message_begins m size = let f = λ (s : List ℕ). zero_at (m ++ s) 30 in behind_begins m size (tail f) (thirty f).0

pub length_codeword : (m : List ℕ) → length m ≡ 514 → length (codeword_of m) ≡ 544
unfolding codeword_of tail
length_codeword m size = let f = λ (s : List ℕ). zero_at (m ++ s) 30 in behind-length m size (tail f) (thirty f).0

pub codeword_small : (m : List ℕ) → ((i : ℕ) → get_or m i 0 < 1024) → (i : ℕ) → get_or (codeword_of m) i 0 < 1024
unfolding codeword_of tail
codeword_small m small = let f = λ (s : List ℕ). zero_at (m ++ s) 30 in append-small m (tail f) small (thirty f).1

-- the one codeword that begins with a message
module _ (message word : List ℕ) (code : Codeword word) (begins : message_of word ≡ message) (only : (c : List ℕ) → Codeword c → message_of c ≡ message → c ≡ word) where
  size : length message ≡ 514
  size = sym (ap length begins) ∙ length-take-le 514 word (let s = code.formed.size in omega arith)

  rest : List ℕ
  rest = drop 514 word

  joined : word ≡ message ++ rest
  unfolding rest
  joined = sym (take-append-drop 514 word) ∙ ap (λ m. m ++ drop 514 word) begins

  rest_length : length rest ≡ 30
  unfolding rest
  rest_length = simp length-drop (let s = code.formed.size in omega arith)

  word_small : (i : ℕ) → get_or word i 0 < 1024
  word_small = all_small word (λ i l. code.formed.symbols i (let s = code.formed.size in omega arith))

  rest_small : (i : ℕ) → get_or rest i 0 < 1024
  unfolding rest
  rest_small i = rw get_or-drop (word_small (514 + i))

  message-small : (i : ℕ) → get_or message i 0 < 1024
  message-small = all_small message (λ i l. rw (← begins, get_or-take 514 word i 0 (let s = size in omega arith)) (word_small i))

  abbrev fits : List ℕ → Bool
  fits s = zero_at (message ++ s) 30

  pub named : word ≡ codeword_of message
  unfolding codeword_of
  named = split (first_list 30 fits) refl
    where
      split : (o : Option (List ℕ)) → first_list 30 fits ≡ o → word ≡ message ++ unwrap_or o (replicate 30 0)
      split None p = absurd (both_ways (fits rest) (first_none 30 fits p rest rest_length rest_small) (ap (λ w. zero_at w 30) (sym joined) ∙ zero_at_true word 30 code.roots))
      split (Some s) p = let t = first_some 30 fits s p in sym (only (message ++ s) (behind_codeword message size s t.1 message-small t.2 t.0) (behind_begins message size s t.1))
