-- What a sender stands for, and how it is made. Assumes nothing.
use Rattle.std.specs.Prelude.{◌≡◌, ℕ, ◌^◌, ◌<◌, ◌≤◌, Ok, Err, Option, None, Some, Result}
use Rattle.blocks.specs.Memories.{out_memory}
use Rattle.blocks.specs.declared.refusal.Refusal.TheVariants.{Start}
use Rattle.lanes.specs.Pads.{pad_memory}
use Rattle.sender.specs.States.{SenderState, started}
use Rattle.sender.specs.declared.refusal.Refusal.{Refusal}
use Rattle.sender.specs.declared.refusal.Refusal.TheVariants.{Blocks}
use Rattle.sender.specs.declared.send.Sender.{Sender}

-- a scrambler start below 2^58, a pad start from 1 to 511 and a status up to 7
pub record Allowed (scramble pad status : ℕ) : Type 0 where
  pub start_of_58 : scramble < 2 ^ 58
  pub pad_above : 1 ≤ pad
  pub pad_below : pad ≤ 511
  pub status_below : status ≤ 7

-- nothing, or a refusal
abbrev pub Checks : Option Refusal → Result (Unit {0}) Refusal → Type 0
Checks refused (Ok u) = refused ≡ None
Checks refused (Err e) = refused ≡ Some e

module _ {R : Type 0} where
  abbrev pub state_of : Sender R → SenderState
  state_of s = record { scrambler = out_memory s.scrambler; pad = pad_memory s.pad; status = s.status; index = s.index }

  -- what is answered to three start values
  abbrev pub Made : ℕ → ℕ → ℕ → Result (Sender R) Refusal → Type 0
  Made scramble pad status (Ok s) = Allowed scramble pad status × (state_of s ≡ started scramble pad status)
  Made scramble pad status (Err e) = (Allowed scramble pad status → ⊥) × (e ≡ Blocks Start)
