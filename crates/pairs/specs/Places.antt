-- Where the symbols of a pair's two words stand on the lanes. Assumes nothing.
use Rattle.std.specs.Prelude.{ℕ, ◌+◌, ◌*◌, ◌/◌, ◌%◌, if◌then◌else◌, ◌&&◌, List, Some, None, Option, ◌==◌, nat_lt}
use Rattle.pairs.specs.declared.place.WordPlace.{WordPlace}
use Rattle.pairs.specs.declared.place.LanePlace.{LanePlace}

-- word A is 0, word B is 1
abbrev pub one_of : ℕ → List ℕ → List ℕ → List ℕ
one_of w a b = if w == 0 then a else b

-- A row takes the next W/2 symbols of each word. A stands on the even lanes and B on the odd ones in even rows, and they are
-- exchanged in odd rows. So symbol x of word w goes out in this row, on this lane:
abbrev pub row_at : ℕ → ℕ → ℕ
row_at lanes x = x / (lanes / 2)

abbrev pub lane_at : ℕ → ℕ → ℕ → ℕ
lane_at lanes w x = 2 * (x % (lanes / 2)) + (row_at lanes x + w) % 2

-- and lane l carries in row k a symbol of this word, with this index:
abbrev pub word_at : ℕ → ℕ → ℕ
word_at l k = (l + k) % 2

abbrev pub index_at : ℕ → ℕ → ℕ → ℕ
index_at lanes l k = lanes / 2 * k + l / 2

-- the rows of a pair
abbrev pub row_count : ℕ → ℕ
row_count lanes = 1088 / lanes

-- the place on the lanes of a place in the words, and the place in the words that a place on the lanes carries
abbrev pub sent_at : ℕ → WordPlace → LanePlace
sent_at lanes p = record { lane = lane_at lanes p.word p.index; row = row_at lanes p.index }

abbrev pub carried : ℕ → LanePlace → WordPlace
carried lanes q = record { word = word_at q.lane q.row; index = index_at lanes q.lane q.row }

-- the same as calls: none outside the two words, and none outside the lanes and rows
unfoldable pub on_lane : ℕ → WordPlace → Option LanePlace
on_lane lanes p = if nat_lt p.word 2 && nat_lt p.index 544 then Some (sent_at lanes p) else None

unfoldable pub in_word : ℕ → LanePlace → Option WordPlace
in_word lanes q = if nat_lt q.lane lanes && nat_lt q.row (row_count lanes) then Some (carried lanes q) else None
