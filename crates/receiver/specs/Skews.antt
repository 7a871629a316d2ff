-- Skew: how far the markers of the positions lie from that of the position just locked. Assumes nothing.
use Rattle.std.specs.Prelude.{ℕ, ◌*◌, Bool, if◌then◌else◌, List, map, ℤ, pos, ◌-ℤ◌, int_lt, nat_lt, fold}
use Rattle.std.specs.Int.{int_min, int_max}
use Rattle.lanes.specs.declared.lock.Lock.{Lock}
use Rattle.lanes.specs.declared.lock.Lock.TheVariants.{Searching, Waiting, Locked}

-- the ticks to a position's next test
abbrev pub ticks_left : Lock → ℕ
ticks_left Searching = 0
ticks_left (Waiting l left) = left
ticks_left (Locked l left failures) = left

-- On the tick on which a position locks, the marker of another ends `left` ticks later, or it ended a period less than that
-- earlier, whichever is nearer, and later where they are equally near. Negative is earlier.
abbrev pub offset : ℕ → ℕ → ℤ
offset period left = if nat_lt period (2 * left) then pos left -ℤ pos period else pos left

unfoldable pub skew : ℕ → Lock → ℤ
skew period lock = offset period (ticks_left lock)

-- the largest and the smallest skew; the position just locked has 0
abbrev pub largest : List ℤ → ℤ
largest skews = fold int_max (pos 0) skews

abbrev pub smallest : List ℤ → ℤ
smallest skews = fold int_min (pos 0) skews

-- the most that the largest skew may be above the smallest, in bits
abbrev pub most_apart : ℕ
most_apart = 4781

unfoldable pub too_wide : ℕ → List Lock → Bool
too_wide period locks = int_lt (pos most_apart) (largest (map (skew period) locks) -ℤ smallest (map (skew period) locks))
