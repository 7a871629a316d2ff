use Rattle.std.proofs.Common.{◌≡◌, take, map, pos, neg_ℤ, ◌≤ℤ◌, ◌^◌}
use Rattle.receiver.specs.Skews.{largest, smallest, skew}
use Rattle.receiver.proofs.skew.too_wide.Given as goal

abbrev pub invariant-loop-lock : goal.invariant-loop-lock
invariant-loop-lock l = record {
  greatest : l.largest ≡ largest (map (skew l.period) (take l.lock-index l.positions));
  least : l.smallest ≡ smallest (map (skew l.period) (take l.lock-index l.positions));
  high : l.largest ≤ℤ pos (2 ^ 31);
  above : pos 0 ≤ℤ l.largest;
  low : neg_ℤ (pos (2 ^ 31)) ≤ℤ l.smallest;
  below : l.smallest ≤ℤ pos 0;
}
