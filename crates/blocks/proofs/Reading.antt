-- The three cases of reading a group back.
use Rattle.std.proofs.Common.{◌≡◌, ℕ, ◌+◌, ◌*◌, ◌<◌, true, false, eqb, List, [], ◌∷◌, map, length, get_or, take, drop, set, Some, None, Option, MatchOption, sym, refl, ◌∙◌, ap₂, inl, inr, arith}
use Rattle.std.proofs.lemmas.Bool.{cases_Bool}
use Rattle.bits.specs.Bits.{field, number}
use Rattle.blocks.specs.Groups.{blocks_under, read_back, flags_back, flagged, control_back, some_control, first_control_place, some_zero, first_zero_place, high_digit, with_digit_at, words}
use Rattle.blocks.specs.declared.block.Header.{Header}
use Rattle.blocks.specs.declared.block.Header.TheVariants.{Zeros, Data, Ones}
use Rattle.blocks.proofs.Parts.{take_in}

-- control blocks by flags that are 0
pub zero_control : (fs : List ℕ) → some_control (map flagged fs) ≡ some_zero fs
zero_control [] = refl
zero_control (f ∷ fs) = elim (cases_Bool (eqb f 0)) [
  | inl z ↦ rw z
  | inr z ↦ rw z (zero_control fs)
]

pub first_zero : (fs : List ℕ) → first_control_place (map flagged fs) ≡ first_zero_place fs
first_zero [] = refl
first_zero (f ∷ fs) = elim (cases_Bool (eqb f 0)) [
  | inl z ↦ rw z
  | inr z ↦ rw z (omega (arith, first_zero fs))
]

-- bit 0 is 1
pub data_read : (s : List ℕ) → blocks_under (Data ∷ Data ∷ Data ∷ Data ∷ []) s ≡ read_back (1 ∷ s)
unfolding read_back
data_read s = refl

-- the flags are the first four bits
front : (ps : List ℕ) → 0 < length ps → take 4 (words ps) ≡ field (get_or ps 0 0) 0 4
front [] l = absurd (omega arith)
front (p ∷ ps) l = take_in p 4 60 (words ps)

module _ (ps : List ℕ) (l : 0 < length ps) where
  pub control_read : (at : ℕ) → some_control (map flagged (field (get_or ps 0 0) 0 4)) ≡ true → first_control_place (map flagged (field (get_or ps 0 0) 0 4)) ≡ at →
      control_back (field (get_or ps 0 0) 0 4) at (drop 4 (words ps)) (high_digit (number (take 4 (drop (64 * at) (drop 4 (words ps)))))) ≡ read_back (0 ∷ words ps)
  unfolding read_back flags_back
  control_read at s f =
      let t = front ps l in
      let z = sym (zero_control (field (get_or ps 0 0) 0 4)) ∙ s in
      let p = sym (first_zero (field (get_or ps 0 0) 0 4)) ∙ f in
      rw (t, z, p)

  pub bad_read : some_control (map flagged (field (get_or ps 0 0) 0 4)) ≡ false →
      blocks_under (Zeros ∷ Ones ∷ Zeros ∷ Ones ∷ []) (with_digit_at 4 0 (drop 4 (words ps))) ≡ read_back (0 ∷ words ps)
  unfolding read_back flags_back
  bad_read s =
      let t = front ps l in
      let z = sym (zero_control (field (get_or ps 0 0) 0 4)) ∙ s in
      rw (t, z)

-- the digit that fits, or none
pub control_put : (fs : List ℕ) (at d : ℕ) (rest : List ℕ) (hs : List Header) (o : Option ℕ) → MatchOption o ((hs ≡ set (map flagged fs) at Ones) × (d ≡ 0)) (λ e. (hs ≡ map flagged fs) × (d ≡ e)) →
    blocks_under hs (with_digit_at (64 * at + 4) d rest) ≡ control_back fs at rest o
unfolding control_back
control_put fs at d rest hs (Some e) h = ap₂ (λ (gs : List Header) (x : ℕ). blocks_under gs (with_digit_at (64 * at + 4) x rest)) h.0 h.1
control_put fs at d rest hs None h = ap₂ (λ (gs : List Header) (x : ℕ). blocks_under gs (with_digit_at (64 * at + 4) x rest)) h.0 h.1
