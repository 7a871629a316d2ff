-- The pad bits of the marker blocks. Assumes nothing.
use Rattle.std.specs.Prelude.{◌≡◌, ℕ, zero, suc, ◌≤◌, List, Ok, Err, Result, bit_xor}
use Rattle.bits.specs.Bits.{field}
use Rattle.blocks.specs.declared.refusal.Refusal.{Refusal}
use Rattle.blocks.specs.declared.refusal.Refusal.TheVariants.{Start}
use Rattle.lanes.specs.declared.pad.Pad.{Pad}

-- The pad bit k + 1 places before pad bit n; `past` has those before the first. Each is the xor of those 5 and 9 before it.
unfoldable pub pad_before : (ℕ → ℕ) → ℕ → ℕ → ℕ
pad_before past zero k = past k
pad_before past (suc n) zero = bit_xor (pad_before past n 4) (pad_before past n 8)
pad_before past (suc n) (suc k) = pad_before past n k

abbrev pub pad_bit : (ℕ → ℕ) → ℕ → ℕ
pad_bit past n = pad_before past (suc n) zero

-- the last nine pad bits, the newest first
abbrev pub pad_memory : Pad → List ℕ
pad_memory p = field p.memory 0 9

-- A pad start is from 1 to 511. Its bit k - 1 is the pad bit k before the first.
abbrev pub PadStarted : ℕ → Result Pad Refusal → Type 0
PadStarted start (Ok p) = (1 ≤ start) × (start ≤ 511) × (pad_memory p ≡ field start 0 9)
PadStarted start (Err e) = ((1 ≤ start) × (start ≤ 511) → ⊥) × (e ≡ Start)
