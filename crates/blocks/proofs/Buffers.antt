-- Records and groups in buffers.
use Rattle.std.proofs.Common.{◌≡◌, ℕ, zero, suc, ◌*◌, ◌/◌, ◌%◌, ◌<◌, ◌≤◌, true, false, eqb, List, [], ◌∷◌, length, get_or, take, drop, add-zero, add-one, None, Result, Ok, Err, IsErrAnd, refl, ap, ◌∙◌, inl, inr, arith}
use Rattle.std.proofs.lemmas.List.{take-take, drop-drop, get_or-take, get_or-drop}
use Rattle.std.proofs.lemmas.Bool.{eq-eqb, ne_eqb, eqb-true, eqb-false, cases_Bool, lt-ltb, le-ltb}
use Rattle.std.proofs.lemmas.Result.{err_from_is_err_and}
use Rattle.std.specs.Simd.{first_chunks}
use Rattle.bits.specs.Bits.{number, octet_bits}
use Rattle.blocks.specs.Groups.{one_if}
use Rattle.blocks.specs.Blocks.{kind_of, header_of, block_in, blocks_in}
use Rattle.bits.specs.Lowest.{lowest}
use Rattle.blocks.specs.Calls.{kind_above_3, begun, bad_kind, four_refused, outcome_of}
use Rattle.blocks.specs.declared.block.Block.{Block}
use Rattle.blocks.specs.declared.block.Header.{Header}
use Rattle.blocks.specs.declared.block.Header.TheVariants.{Zeros, Control, Data, Ones}
use Rattle.blocks.specs.declared.refusal.Refusal.{Refusal}
use Rattle.blocks.specs.declared.refusal.Refusal.TheVariants.{Length, Kind}
use Rattle.bits.proofs.Lowest.{lowest_past, lowest-found}
use Rattle.bits.proofs.Arrays.{chunk_at}

pub wrong_count : {A : Type 0} (a : A) (xs : List ℕ) → (length xs ≡ 36 → ⊥) → Err Length ≡ outcome_of a (four_refused xs)
unfolding four_refused
wrong_count a xs h = let e : eqb (length xs) 36 ≡ false = ne_eqb _ _ h in rw e

-- a record at the front of nine octets and more
block_in-take : (xs : List ℕ) → block_in (take 9 xs) ≡ block_in xs
block_in-take [] = refl
block_in-take (x ∷ xs) = ap (λ (l : List ℕ). record { header = header_of x; payload = number (octet_bits l) }) (take-take 8 8 xs (omega arith))

-- the kinds of the first i records are up to 3
abbrev pub Taken : List (List ℕ) → ℕ → Type 0
Taken cs zero = Unit {0}
Taken cs (suc i) = Taken cs i × (get_or (get_or cs i []) 0 0 < 4)

-- 36 bytes in chunks of nine
module _ (xs : List ℕ) (long : length xs ≡ 36) (cs : List (List ℕ)) (front : cs ≡ first_chunks 9 (length xs / 9) xs) where
  chunk : (i : ℕ) → i < 4 → get_or cs i [] ≡ take 9 (drop (9 * i) xs)
  chunk i l = ap (λ (ys : List (List ℕ)). get_or ys i []) front ∙ chunk_at 9 (length xs / 9) xs i (omega arith)

  kind_byte : (i : ℕ) → i < 4 → get_or (get_or cs i []) 0 0 ≡ get_or xs (9 * i) 0
  kind_byte i l = ap (λ (ys : List ℕ). get_or ys 0 0) (chunk i l) ∙ get_or-take 9 (drop (9 * i) xs) 0 0 (omega arith) ∙ get_or-drop (9 * i) xs 0 0 ∙ ap (λ (j : ℕ). get_or xs j 0) (add-zero (9 * i))

  known : (i : ℕ) → i ≤ 4 → Taken cs i → lowest (kind_above_3 xs) i ≡ None
  unfolding lowest
  known zero l h = refl
  known (suc i) l h = rw add-one at (lowest_past (kind_above_3 xs) i (known i (omega arith) h.0) (le-ltb 3 (get_or xs (9 * i) 0) (omega (arith, kind_byte i (omega arith), h.1))))

  -- record i is refused, and none in front of it
  pub wrong_kind : {A : Type 0} (a : A) (answer : Result A Refusal) (e : Refusal) (i : ℕ) → IsErrAnd answer (λ x. x ≡ e) → (3 < get_or (get_or cs i []) 0 0) × (e ≡ Kind i) → i < 4 → Taken cs i → answer ≡ outcome_of a (four_refused xs)
  unfolding four_refused bad_kind
  wrong_kind a answer e i gives why l h =
      let p = err_from_is_err_and answer gives in
      let m : eqb (length xs) 36 ≡ true = eq-eqb _ _ long in
      let n : begun xs ≡ 4 = omega arith in
      let f = lt-ltb 3 (get_or xs (9 * i) 0) (omega (arith, kind_byte i l, why.0)) in
      rw (m, n, lowest-found (kind_above_3 xs) i 4 l (known i (omega arith) h) f) (p.1 ∙ ap Err (p.2 ∙ why.1))

  right_kinds : Taken cs 4 → four_refused xs ≡ None
  unfolding four_refused bad_kind
  right_kinds h = let e : eqb (length xs) 36 ≡ true = eq-eqb _ _ long in let n : begun xs ≡ 4 = omega arith in rw (e, n, known 4 (omega arith) h)

  block_of : (i : ℕ) → i < 4 → (b : Block) → b ≡ block_in (get_or cs i []) → b ≡ block_in (drop (9 * i) xs)
  block_of i l b e = e ∙ ap block_in (chunk i l) ∙ block_in-take (drop (9 * i) xs)

  pub four_taken : (a b c d : Block) → a ≡ block_in (get_or cs 0 []) → b ≡ block_in (get_or cs 1 []) → c ≡ block_in (get_or cs 2 []) → d ≡ block_in (get_or cs 3 []) → Taken cs 4 →
      Ok (a ∷ b ∷ c ∷ d ∷ []) ≡ outcome_of (blocks_in 4 xs) (four_refused xs)
  unfolding blocks_in
  four_taken a b c d ea eb ec ed h =
      let p = block_of 0 (omega arith) a ea in
      let q = block_of 1 (omega arith) b eb in
      let r = block_of 2 (omega arith) c ec in
      let s = block_of 3 (omega arith) d ed in
      let t : drop 9 (drop 9 xs) ≡ drop 18 xs = drop-drop 9 9 xs in
      let u : drop 9 (drop 9 (drop 9 xs)) ≡ drop 27 xs = ap (drop 9) t ∙ drop-drop 9 18 xs in
      let v = ap block_in t in
      let w = ap block_in u in
      let taken : a ∷ b ∷ c ∷ d ∷ [] ≡ blocks_in 4 xs = cc in
      rw (right_kinds h) (ap Ok taken)

pub lowest-bit : (x : ℕ) → one_if (eqb (x % 2) 1) ≡ x / 1 % 2
lowest-bit x = elim (cases_Bool (eqb (x % 2) 1)) [
  | inl e ↦ let h = eqb-true _ _ e in rw e (omega arith)
  | inr e ↦ let h = eqb-false _ _ e in rw e (omega arith)
]

-- a kind that stands for a header
pub header_known : (k : ℕ) (h : Header) → kind_of h ≡ k → (k < 4) × (h ≡ header_of k)
header_known k Zeros e = (omega arith, rw (← e))
header_known k Control e = (omega arith, rw (← e))
header_known k Data e = (omega arith, rw (← e))
header_known k Ones e = (omega arith, rw (← e))
