-- The codewords of a message.
use Rattle.std.proofs.Common.{◌≡◌, ℕ, ◌+◌, ◌*◌, ◌/◌, ◌<◌, zero, suc, List, [], ◌∷◌, length, get_or, take, drop, ap₂, length-take, sym, refl, ap, ◌∙◌, subst, inl, inr, arith}
use Rattle.std.proofs.lemmas.List.{get_or-take, get_or_past, get_or-drop}
use Rattle.std.proofs.lemmas.Bool.{cases_lt}
use Rattle.std.specs.Simd.{first_chunks}
use Rattle.bits.specs.Bits.{Binary, number, table, nth}
use Rattle.bits.proofs.Tables.{length-table, nth-table, table_same}
use Rattle.bits.proofs.Arrays.{chunk_at}
use Rattle.bits.proofs.Binary.{binary_none, binary_take, binary_drop}
use Rattle.lanes.specs.Markers.{symbol_in}
use Rattle.code.specs.Code.{WellFormed, codeword_of}
use Rattle.code.proofs.Existing.{each_encodes}
use Rattle.code.proofs.Named.{message_begins, length_codeword, codeword_small}
use Rattle.pairs.specs.Messages.{word_symbol, word}
use Rattle.pairs.specs.Laws.{AreCodewords}
use Rattle.pairs.specs.Places.{one_of}
use Rattle.pairs.specs.Packing.{Small, AllBinary, AllSmall, IsZeroFrom, every_second}
use Rattle.pairs.proofs.Symbols.{table_below, symbol_in-small}

-- the symbols of a message stand first in its codewords
pub word-nth : (bits : List ℕ) (w x : ℕ) → x < 514 → nth (word bits w) x ≡ word_symbol bits w x
unfolding word
word-nth bits w x l =
    let m : List ℕ = table 514 (word_symbol bits w) in
    sym (get_or-take 514 (codeword_of m) x 0 l) ∙ ap (λ (s : List ℕ). nth s x) (message_begins m (length-table 514 (word_symbol bits w))) ∙ nth-table 514 (word_symbol bits w) x l

pub length-word : (bits : List ℕ) (w : ℕ) → length (word bits w) ≡ 544
unfolding word
length-word bits w = length_codeword (table 514 (word_symbol bits w)) (length-table 514 (word_symbol bits w))

pub symbols_small : (bits : List ℕ) (w : ℕ) → Binary bits → Small (table 514 (word_symbol bits w))
symbols_small bits w b = table_below 514 1024 (word_symbol bits w) (omega arith) (λ i l. symbol_in-small bits (2 * i + w) b)

pub word_small : (bits : List ℕ) (w : ℕ) → Binary bits → Small (word bits w)
unfolding word
word_small bits w b = codeword_small (table 514 (word_symbol bits w)) (symbols_small bits w b)

pub one_word : (bits : List ℕ) (w : ℕ) → w < 2 → one_of w (word bits 0) (word bits 1) ≡ word bits w
one_word bits zero h = refl
one_word bits (suc zero) h = refl
one_word bits (suc (suc w)) h = absurd (omega arith)

-- codewords
pub are_codewords : AreCodewords
unfolding word
are_codewords bits w b = let small = symbols_small bits w b in (each_encodes (table 514 (word_symbol bits w)) (length-table 514 (word_symbol bits w)) (λ i h. small i)).codeword

pub word_formed : (bits : List ℕ) (w : ℕ) → Binary bits → WellFormed (word bits w)
word_formed bits w b = (are_codewords bits w b).formed

pub two_small : (x y : List ℕ) → Small x → Small y → AllSmall (x ∷ (y ∷ []))
two_small x y hx hy zero = hx
two_small x y hx hy (suc zero) = hy
two_small x y hx hy (suc (suc w)) = λ i. omega arith

-- bits in tens
length_tens : (n : ℕ) (bits : List ℕ) → length (first_chunks 10 n bits) ≡ n
length_tens zero bits = refl
length_tens (suc n) bits = ap suc (length_tens n (drop 10 bits))

-- numbers of bits that are the same at each place
number_same : (xs ys : List ℕ) → ((i : ℕ) → nth xs i ≡ nth ys i) → number xs ≡ number ys
unfolding number
number_same [] [] h = refl
number_same [] (y ∷ ys) h = let k = number_same [] ys (λ i. h (suc i)) in let z = h 0 in omega arith
number_same (x ∷ xs) [] h = let k = number_same xs [] (λ i. h (suc i)) in let z = h 0 in omega arith
number_same (x ∷ xs) (y ∷ ys) h = ap₂ (λ (b n : ℕ). b + 2 * n) (h 0) (number_same xs ys (λ i. h (suc i)))

-- bits that are zeros from some number on give the symbols of those before
kept : (n : ℕ) (bits : List ℕ) → IsZeroFrom n bits → (i : ℕ) → nth bits i ≡ nth (take n bits) i
kept n bits z i = elim (cases_lt i n) [
  | inl l ↦ sym (get_or-take n bits i 0 l)
  | inr l ↦ z i l ∙ sym (get_or_past (take n bits) i 0 (let k = length-take n bits in omega arith))
]

ten_kept : (k : ℕ) (xs ys : List ℕ) → ((i : ℕ) → nth xs i ≡ nth ys i) → (i : ℕ) → nth (take 10 (drop k xs)) i ≡ nth (take 10 (drop k ys)) i
ten_kept k xs ys h i = elim (cases_lt i 10) [
  | inl l ↦ get_or-take 10 (drop k xs) i 0 l ∙ get_or-drop k xs i 0 ∙ h (k + i) ∙ sym (get_or-take 10 (drop k ys) i 0 l ∙ get_or-drop k ys i 0)
  | inr l ↦
      let past : (zs : List ℕ) → nth (take 10 zs) i ≡ 0 = λ zs. get_or_past (take 10 zs) i 0 (let n = length-take 10 zs in omega arith) in
      past (drop k xs) ∙ sym (past (drop k ys))
]

-- the tens of a message's bits, and every second of their symbols
module _ (n : ℕ) (bits : List ℕ) (tens : List (List ℕ)) (size : length bits ≡ 10280) (made : tens ≡ first_chunks 10 (length bits / 10) bits) where
  count : length bits / 10 ≡ 1028
  count = ap (λ (k : ℕ). k / 10) size

  tens_binary : Binary bits → AllBinary tens
  tens_binary b k = subst (λ (ts : List (List ℕ)). Binary (get_or ts k [])) (sym made) (elim (cases_lt k (length bits / 10)) [
    | inl h ↦ subst Binary (sym (chunk_at 10 (length bits / 10) bits k h)) (binary_take 10 (drop (10 * k) bits) (binary_drop (10 * k) bits b))
    | inr h ↦ subst Binary (sym (get_or_past (first_chunks 10 (length bits / 10) bits) k [] (rw (length_tens (length bits / 10) bits) h))) binary_none
  ])

  pub tens_asked : Binary bits → (first : ℕ) → first < 2 → AllBinary tens × ((length tens ≡ 1028) × (first < 2))
  tens_asked b first h = (tens_binary b, (ap length made ∙ length_tens (length bits / 10) bits ∙ count, h))

  pub tens_symbols : IsZeroFrom n bits → (first : ℕ) → first < 2 → table 514 (every_second tens first) ≡ table 514 (word_symbol (take n bits) first)
  unfolding symbol_in
  tens_symbols z first h =
      table_same 514 (every_second tens first) (word_symbol (take n bits) first) (λ x l.
      let k : ℕ = 10 * (2 * x + first) in
      ap (λ (ts : List (List ℕ)). number (get_or ts (2 * x + first) [])) made ∙ ap number (chunk_at 10 (length bits / 10) bits (2 * x + first) (omega (arith, count)))
      ∙ number_same (take 10 (drop k bits)) (take 10 (drop k (take n bits))) (ten_kept k bits (take n bits) (kept n bits z)))
