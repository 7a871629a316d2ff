-- What holds of everything that a sender of a rate sends. Assumes nothing.
use Rattle.lanes.specs.Rates.{Layout}
use Rattle.pairs.specs.Laws.{PairLaws}
use Rattle.sender.specs.Joins.{SendsJoin, LanesJoin, PairsReturn}

pub record Sending (r : Layout) : Type 0 where
  -- of every pair: its places on the lanes, its markers, its codewords, the way back
  pub pairs : PairLaws r
  -- sends join: one scrambled stream, one row of pad bits, refused sends adding nothing
  pub joins : SendsJoin r
  -- also on each lane
  pub lanes : LanesJoin r
  -- and each pair comes back
  pub back : PairsReturn r
