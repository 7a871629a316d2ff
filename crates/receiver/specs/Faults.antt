-- What a setback names: layer, cause, position and the accepted ticks of the hunt. Assumes nothing.
use Rattle.std.specs.Prelude.{ℕ}
use Rattle.lanes.specs.Faults.{layer_of as lanes_layer, number_of as lanes_number, five_failed}
use Rattle.receiver.specs.declared.fault.Cause.{Cause}
use Rattle.receiver.specs.declared.fault.Cause.TheVariants.{LaneTwice, Skew}
use Rattle.receiver.specs.declared.fault.Misaligned.{Misaligned}
use Rattle.receiver.specs.declared.fault.Fault.{Fault}
use Rattle.receiver.specs.declared.fault.Fault.TheVariants.{Lanes, Alignment}

-- layer 2 is that of alignment: a lane twice is its cause 2, skew its cause 3
abbrev pub layer_number : Cause → ℕ
layer_number LaneTwice = 2
layer_number Skew = 2

abbrev pub cause_number : Cause → ℕ
cause_number LaneTwice = 2
cause_number Skew = 3

abbrev pub layer_of : Fault → ℕ
layer_of (Lanes f) = lanes_layer f.cause
layer_of (Alignment f) = layer_number f.cause

abbrev pub cause_of : Fault → ℕ
cause_of (Lanes f) = lanes_number f.cause
cause_of (Alignment f) = cause_number f.cause

abbrev pub position_of : Fault → ℕ
position_of (Lanes f) = f.position
position_of (Alignment f) = f.position

abbrev pub ticks_of : Fault → ℕ
ticks_of (Lanes f) = f.ticks
ticks_of (Alignment f) = f.ticks

-- the faults, by position and ticks
abbrev pub lane_twice : ℕ → ℕ → Misaligned
lane_twice position ticks = record { cause = LaneTwice; position = position; ticks = ticks }

abbrev pub too_much_skew : ℕ → ℕ → Misaligned
too_much_skew position ticks = record { cause = Skew; position = position; ticks = ticks }

abbrev pub five_failures : ℕ → ℕ → Fault
five_failures position ticks = Lanes (five_failed position ticks)
