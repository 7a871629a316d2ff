-- What is told where a position has just locked.
use Rattle.std.proofs.Common.{◌≡◌, ℕ, true, false, List, Some, None, Ok, Err, Option, Result, refl}
use Rattle.std.specs.List.{list_all}
use Rattle.lanes.specs.declared.lock.Lock.{Lock}
use Rattle.receiver.specs.Faults.{lane_twice, too_much_skew}
use Rattle.receiver.specs.Hunts.{last_lock, aligned_told}
use Rattle.receiver.specs.Positions.{is_locked, lane_shared}
use Rattle.receiver.specs.Skews.{too_wide}
use Rattle.receiver.specs.declared.fault.Misaligned.{Misaligned}
use Rattle.receiver.specs.declared.told.Told.{Told}
use Rattle.receiver.specs.declared.told.Told.TheVariants.{Ready}

module _ (period : ℕ) (locks : List Lock) (ticks just : ℕ) (all : list_all is_locked locks ≡ true) where
  pub twice_told : (position : ℕ) → lane_shared locks ≡ Some position → ◌≡◌ {A = Result Told Misaligned} (Err (lane_twice position ticks)) (last_lock period locks ticks (Some just))
  unfolding aligned_told
  twice_told position e = rw (all, e) refl

  pub skew_told : lane_shared locks ≡ None → too_wide period locks ≡ true → ◌≡◌ {A = Result Told Misaligned} (Err (too_much_skew just ticks)) (last_lock period locks ticks (Some just))
  unfolding aligned_told
  skew_told e w = rw (all, e, w) refl

  pub ready_told : lane_shared locks ≡ None → too_wide period locks ≡ false → ◌≡◌ {A = Result Told Misaligned} (Ok Ready) (last_lock period locks ticks (Some just))
  unfolding aligned_told
  ready_told e w = rw (all, e, w) refl
