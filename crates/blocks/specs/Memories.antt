-- The memories of a scrambler and of a descrambler. Assumes nothing.
use Rattle.std.specs.Prelude.{◌≡◌, ℕ, ◌^◌, ◌<◌, ◌≤◌, List, Ok, Err, Result}
use Rattle.bits.specs.Bits.{field}
use Rattle.blocks.specs.Scrambled.{memory_in}
use Rattle.blocks.specs.declared.scramble.Stream.{Stream}
use Rattle.blocks.specs.declared.scramble.Sent.{Sent}
use Rattle.blocks.specs.declared.scramble.Received.{Received}
use Rattle.blocks.specs.declared.refusal.Refusal.{Refusal}
use Rattle.blocks.specs.declared.refusal.Refusal.TheVariants.{Start}

module _ {D : Type 0} where
  -- the last 58 bits, the newest first
  abbrev pub memory_of : Stream D → List ℕ
  memory_of s = memory_in s.memory

-- those of a scrambler went out, and those of a descrambler were received
abbrev pub out_memory : Stream Sent → List ℕ
out_memory s = memory_of s

abbrev pub in_memory : Stream Received → List ℕ
in_memory s = memory_of s

-- A start value has 58 bits. Its bit k - 1 is the bit k before the first.
abbrev pub Started : {A : Type 0} → (A → List ℕ) → ℕ → Result A Refusal → Type 0
Started memory start (Ok s) = (start < 2 ^ 58) × (memory s ≡ field start 0 58)
Started memory start (Err e) = (2 ^ 58 ≤ start) × (e ≡ Start)
