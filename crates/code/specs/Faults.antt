-- Refusals of one word in a row, and the fault that three of them are.
use Rattle.std.specs.Prelude.{◌≡◌, ℕ, zero, suc, ◌+◌, ◌<◌, ◌≤◌, min, Ok, Err, Result, IsErr, ◌==◌, ◌↔◌, if◌then◌else◌}
use Rattle.code.specs.declared.fault.Cause.{Cause}
use Rattle.code.specs.declared.fault.Cause.TheVariants.{ThreeRefusals}
use Rattle.code.specs.declared.fault.Fault.{Fault}
use Rattle.code.specs.declared.refusal.Refusal.{Refusal}

-- layer 3, cause 4
abbrev pub layer_of : Cause → ℕ
layer_of ThreeRefusals = 3

abbrev pub cause_number : Cause → ℕ
cause_number ThreeRefusals = 4

abbrev pub three_refusals : ℕ → ℕ → Fault
three_refusals position ticks = record { cause = ThreeRefusals; position = position; ticks = ticks }

-- The refusals in a row behind one answer more. An accepted word clears them; above three they are not counted.
abbrev pub run_after : ℕ → Result ℕ Refusal → ℕ
run_after run (Ok n) = 0
run_after run (Err e) = min (run + 1) 3

-- three are a fault
abbrev pub run_checked : ℕ → ℕ → ℕ → Result (Unit {0}) Fault
run_checked run position ticks = if run == 3 then Err (three_refusals position ticks) else Ok tt

-- of the two words of a pair, A is named before B
abbrev pub runs_checked : ℕ → ℕ → ℕ → Result (Unit {0}) Fault
runs_checked a b ticks = if a == 3 then Err (three_refusals 0 ticks) else run_checked b 1 ticks

-- the refusals in a row behind the first n answers
abbrev pub run_behind : (ℕ → Result ℕ Refusal) → ℕ → ℕ
run_behind answers zero = 0
run_behind answers (suc n) = run_after (run_behind answers n) (answers n)

-- behind n answers there is a fault exactly if the last three of them were refusals
abbrev pub RunFaults : Type 0
RunFaults =
    (answers : ℕ → Result ℕ Refusal) (n position ticks : ℕ) →
    (run_checked (run_behind answers n) position ticks ≡ Err (three_refusals position ticks)) ↔ ((3 ≤ n) × ((i : ℕ) → i < n → n ≤ i + 3 → IsErr (answers i)))
