-- The fault of five failed markers in a row. Assumes nothing.
use Rattle.std.specs.Prelude.{ℕ, Ok, Err, Result}
use Rattle.lanes.specs.declared.lock.Event.{Event}
use Rattle.lanes.specs.declared.lock.Event.TheVariants.{Quiet, Waits, Locks, Fails, FifthFailure}
use Rattle.lanes.specs.declared.fault.Cause.{Cause}
use Rattle.lanes.specs.declared.fault.Cause.TheVariants.{FiveFailedMarkers}
use Rattle.lanes.specs.declared.fault.Fault.{Fault}

-- layer 1, cause 1
abbrev pub layer_of : Cause → ℕ
layer_of FiveFailedMarkers = 1

abbrev pub number_of : Cause → ℕ
number_of FiveFailedMarkers = 1

abbrev pub five_failed : ℕ → ℕ → Fault
five_failed position ticks = record { cause = FiveFailedMarkers; position = position; ticks = ticks }

-- an event, or the fault that it is
abbrev pub or_fault : Event → ℕ → ℕ → Result Event Fault
or_fault Quiet position ticks = Ok Quiet
or_fault Waits position ticks = Ok Waits
or_fault Locks position ticks = Ok Locks
or_fault Fails position ticks = Ok Fails
or_fault FifthFailure position ticks = Err (five_failed position ticks)
