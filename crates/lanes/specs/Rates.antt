-- What a rate fixes. Assumes nothing.
use Rattle.std.specs.Prelude.{ℕ, ◌*◌, ◌/◌}

-- what a rate fixes: its lanes, the pairs of codewords in a marker period, and the octets of each lane's marker, by lane
-- and index
pub record Layout : Type 0 where
  pub lanes : ℕ
  pub pairs : ℕ
  pub octet : ℕ → ℕ → ℕ

-- the bits of a pair of codewords
abbrev pub pair_size : ℕ
pair_size = 10880

-- those on one lane
abbrev pub pair_bits : ℕ → ℕ
pair_bits lanes = pair_size / lanes

-- the ticks from one marker of a lane to the next
abbrev pub marker_period : Layout → ℕ
marker_period r = r.pairs * pair_bits r.lanes
