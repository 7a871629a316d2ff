-- The two codewords of a pair on the lanes, row by row. Assumes nothing.
use Rattle.std.specs.Prelude.{ℕ, zero, suc, ◌*◌, ◌/◌, ◌%◌, List, [], ◌++◌}
use Rattle.bits.specs.Bits.{bit, octets, table, nth}
use Rattle.pairs.specs.Messages.{word}
use Rattle.pairs.specs.Places.{one_of, word_at, index_at}

-- the symbol of lane l in row k
abbrev pub lane_symbol : ℕ → List ℕ → List ℕ → ℕ → ℕ → ℕ
lane_symbol lanes a b l k = nth (one_of (word_at l k) a b) (index_at lanes l k)

-- bit n of the pair on lane l: symbols have ten bits, the lowest first
unfoldable pub pair_bit : ℕ → List ℕ → List ℕ → ℕ → ℕ → ℕ
pair_bit lanes a b l n = bit (lane_symbol lanes a b l (n / 10)) (n % 10)

-- the octets of lane l
unfoldable pub lane_octets : ℕ → List ℕ → List ℕ → ℕ → List ℕ
lane_octets lanes a b l = octets (1360 / lanes) (table (8 * (1360 / lanes)) (pair_bit lanes a b l))

-- lane 0's octets, then lane 1's, n lanes of them
unfoldable pub strip_octets : ℕ → List ℕ → List ℕ → ℕ → List ℕ
strip_octets lanes a b zero = []
strip_octets lanes a b (suc n) = strip_octets lanes a b n ++ lane_octets lanes a b n

-- the strip of a message: its two codewords on all lanes
unfoldable pub strip_of : ℕ → List ℕ → List ℕ
strip_of lanes bits = strip_octets lanes (word bits 0) (word bits 1) lanes
