-- What private functions of a tick do. Assumes nothing.
use Rattle.std.specs.Prelude.{◌≡◌, ℕ, Bool, if◌then◌else◌, List, length, Some, None, Ok, Err, Option, Result}
use Rattle.lanes.specs.Faults.{five_failed}
use Rattle.lanes.specs.Rates.{Layout}
use Rattle.lanes.specs.declared.fault.Fault.{Fault}
use Rattle.lanes.specs.declared.lock.Lock.{Lock}
use Rattle.receiver.specs.Positions.{locks_after, failed_five, just_locked}

-- the first found, or what is found at a place
abbrev pub first_of : Option ℕ → Bool → ℕ → Option ℕ
first_of (Some k) b i = Some k
first_of None b i = if b then Some i else None

-- the positions moved and the lowest that locks, or the fault of the lowest with five failed markers
abbrev pub Advances : Layout → List ℕ → List Lock → ℕ → List Lock → Result (Option ℕ) Fault → Type 0
Advances r recent old ticks new (Ok just) = (failed_five r recent old ≡ None) × (just ≡ just_locked r recent old) × (new ≡ locks_after r recent old)
Advances r recent old ticks new (Err e) = (position : ℕ) × (failed_five r recent old ≡ Some position) × (e ≡ five_failed position ticks)
