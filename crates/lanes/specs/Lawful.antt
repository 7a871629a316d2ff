-- When a rate is lawful. Assumes nothing.
use Rattle.std.specs.Prelude.{◌≡◌, ℕ, ◌^◌, ◌<◌, ◌≤◌, ◌⊎◌, ◌≢◌}
use Rattle.bits.specs.Bits.{table}
use Rattle.lanes.specs.Rates.{Layout, marker_period}
use Rattle.lanes.specs.Markers.{marker_with, nibble_of, wrong, own}

-- 15 octets have the form of a marker
pub record Form (octet : ℕ → ℕ) : Type 0 where
  pub letters : table 15 octet ≡ marker_with (octet 3) (octet 7) (octet 8) (octet 9) (octet 10)
  pub octets : (i : ℕ) → i < 15 → octet i < 256

pub record Lawful (r : Layout) : Type 0 where
  pub width : (r.lanes ≡ 8) ⊎ (r.lanes ≡ 16)
  pub long : 9600 ≤ marker_period r
  pub short : marker_period r ≤ 2 ^ 31
  pub form : (l : ℕ) → l < r.lanes → Form (r.octet l)
  -- any two markers differ in at least 7 of the 12 nibbles by which a lane is told
  pub apart : (l m : ℕ) → l < r.lanes → m < r.lanes → (l ≢ m) → 7 ≤ wrong (nibble_of (r.octet l)) (nibble_of (r.octet m)) own
