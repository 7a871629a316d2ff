use Rattle.std.proofs.Common.{◌≡◌, drop}
use Rattle.receiver.specs.Hunts.{hunts_after, hunts_answer}
use Rattle.receiver.proofs.hunting.Hunting.ticks.Given as goal

abbrev pub invariant-loop-word : goal.invariant-loop-word
invariant-loop-word g l = record {
  receiver : hunts_after g.R.Rate.layout l.self (drop l.word-index l.words) ≡ hunts_after g.R.Rate.layout l.initial.self l.words;
  answer : hunts_answer g.R.Rate.layout l.self (drop l.word-index l.words) ≡ hunts_answer g.R.Rate.layout l.initial.self l.words;
}
