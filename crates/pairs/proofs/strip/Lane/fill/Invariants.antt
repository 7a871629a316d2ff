use Rattle.std.proofs.Common.{◌≡◌, ◌*◌, take}
use Rattle.bits.specs.Bits.{octets, table}
use Rattle.pairs.specs.Packing.{word_of}
use Rattle.pairs.specs.Strips.{pair_bit}
use Rattle.pairs.proofs.strip.Lane.fill.Given as goal

abbrev pub invariant-loop-q : goal.invariant-loop-q
invariant-loop-q g l = take (5 * l.q) l.part ≡ octets (5 * l.q) (table (40 * l.q) (pair_bit g.R.Rate.layout.lanes (word_of l.self.words.now.words 0) (word_of l.self.words.now.words 1) l.self.number))
