-- The lowest bit of a tick word that stands for no position.
use Rattle.std.proofs.Common.{◌≡◌, ℕ, ◌+◌, ◌-◌, ◌/◌, ◌%◌, ◌^◌, ◌<◌, ◌≤◌, Some, None, false, true, sym, ap, ◌∙◌, refl, inl, inr, arith}
use Rattle.std.proofs.lemmas.Bool.{cases_lt, lt-leb, le-leb}
use Rattle.std.proofs.lemmas.Bool.Decides.{nat_tests}
use Rattle.std.proofs.lemmas.Nat.{shr-shr}
use native.Mathlib.Nat.{zero-div}
use Rattle.bits.specs.Bits.{bit}
use Rattle.bits.specs.Lowest.{lowest}
use Rattle.bits.proofs.Lowest.{lowest_none, lowest-found}
use Rattle.receiver.specs.Refusals.{is_stray, stray_bit}

-- a bit above the positions is one of what stands above them
bit_above : (lanes word i : ℕ) → lanes ≤ i → bit word i ≡ bit (word / 2 ^ lanes) (i - lanes)
bit_above lanes word i h =
    let e : i ≡ lanes + (i - lanes) = omega arith in
    ap (bit word) e ∙ sym (ap (λ (x : ℕ). x % 2) (shr-shr word lanes (i - lanes)))

zero_bit : (i : ℕ) → bit 0 i ≡ 0
zero_bit i = rw zero-div refl

stray_above : (lanes word i b : ℕ) → lanes ≤ i → bit (word / 2 ^ lanes) (i - lanes) ≡ b → b < 1 → is_stray lanes word i ≡ false
stray_above lanes word i b h e l = let z : bit word i ≡ 0 = bit_above lanes word i h ∙ e ∙ omega arith in rw z (grind (arith, nat_tests))

not_stray : (lanes word i : ℕ) → i < lanes → is_stray lanes word i ≡ false
not_stray lanes word i h = grind (arith, nat_tests)

pub stray_none : (lanes word : ℕ) → word / 2 ^ lanes ≡ 0 → stray_bit lanes word ≡ None
unfolding stray_bit
stray_none lanes word e = lowest_none (is_stray lanes word) 32 (λ i l. elim (cases_lt i lanes) [
  | inl m ↦ not_stray lanes word i m
  | inr m ↦ stray_above lanes word i 0 m (ap (λ (x : ℕ). bit x (i - lanes)) e ∙ zero_bit (i - lanes)) (omega arith)
])

inside : (lanes word place : ℕ) → word < 2 ^ 32 → bit (word / 2 ^ lanes) place ≡ 1 → lanes + place < 32
inside lanes word place h one = elim (cases_lt (lanes + place) 32) [
  | inl l ↦ l
  | inr l ↦
      let z : word / 2 ^ 32 ≡ 0 = omega arith in
      let e : lanes + place ≡ 32 + (lanes + place - 32) = omega arith in
      let d : word / 2 ^ lanes / 2 ^ place ≡ 0 =
      shr-shr word lanes place ∙ ap (λ (k : ℕ). word / 2 ^ k) e ∙ sym (shr-shr word 32 (lanes + place - 32)) ∙ ap (λ (x : ℕ). x / 2 ^ (lanes + place - 32)) z ∙ zero-div (2 ^ (lanes + place - 32)) in
      let f : 0 ≡ 1 = sym (ap (λ (x : ℕ). x % 2) d) ∙ one in
      absurd (omega arith)
]

pub stray_some : (lanes word place : ℕ) → word < 2 ^ 32 → bit (word / 2 ^ lanes) place ≡ 1 → ((i : ℕ) → i < place → bit (word / 2 ^ lanes) i ≡ 0) → stray_bit lanes word ≡ Some (lanes + place)
unfolding stray_bit
stray_some lanes word place small one zeros =
    let l = inside lanes word place small one in
    let below : lowest (is_stray lanes word) (lanes + place) ≡ None = lowest_none (is_stray lanes word) (lanes + place) (λ i m. elim (cases_lt i lanes) [
      | inl k ↦ not_stray lanes word i k
      | inr k ↦ stray_above lanes word i 0 k (zeros (i - lanes) (omega arith)) (omega arith)
    ]) in
    let e : lanes + place - lanes ≡ place = omega arith in
    let here : bit word (lanes + place) ≡ 1 = bit_above lanes word (lanes + place) (omega arith) ∙ ap (bit (word / 2 ^ lanes)) e ∙ one in
    lowest-found (is_stray lanes word) (lanes + place) 32 l below (rw here (grind (arith, nat_tests)))
