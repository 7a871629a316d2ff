-- Records one after another, as the commands go through them. Assumes nothing.
use Rattle.std.specs.Prelude.{ℕ, List, drop}
use Rattle.blocks.specs.Records.{record_size}

-- what is left behind the first record
abbrev pub behind : List ℕ → List ℕ
behind xs = drop (record_size xs) xs
