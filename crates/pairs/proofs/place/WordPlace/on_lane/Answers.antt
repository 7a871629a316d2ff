use Rattle.std.proofs.Common.{ℕ, Some, ap, sym, ◌∙◌}
use Rattle.pairs.specs.Places.{sent_at}
use Rattle.pairs.proofs.Placed.{on_lane_inside, no_word, no_index, one_to_one}
use Rattle.pairs.proofs.place.WordPlace.on_lane.Goals.{then-word-ge-WORDS-via-then-word-ge-WORDS, then-word-ge-WORDS-via-else-word-ge-WORDS+then-index-ge-WORD_SYMBOLS}
use Rattle.pairs.proofs.place.WordPlace.on_lane.Goals as goal

pub returns-then-word-ge-WORDS-clause-place : goal.returns-then-word-ge-WORDS-clause-place
returns-then-word-ge-WORDS-clause-place g c = elim c.then-word-ge-WORDS.branch [
  | then-word-ge-WORDS-via-then-word-ge-WORDS w ↦ sym (no_word g.R.Rate.layout.lanes c.args.self w.if-word-ge-WORDS.true)
  | then-word-ge-WORDS-via-else-word-ge-WORDS+then-index-ge-WORD_SYMBOLS w ↦ sym (no_index g.R.Rate.layout.lanes c.args.self w.if-word-ge-WORDS.false w.if-index-ge-WORD_SYMBOLS.true)
]

pub returns-then-word-ge-WORDS-clause-laws : goal.returns-then-word-ge-WORDS-clause-laws
returns-then-word-ge-WORDS-clause-laws g c = one_to_one g.R.Rate.layout.lanes g.met.R.Rate.lawful.width

pub returns-clause-place : goal.returns-clause-place
returns-clause-place g c =
    ap (λ (lanes : ℕ). Some (sent_at lanes c.args.self)) c.lane_count-half.ensures ∙ sym (on_lane_inside g.R.Rate.layout.lanes c.args.self c.if-word-ge-WORDS.false c.if-index-ge-WORD_SYMBOLS.false)

pub returns-clause-laws : goal.returns-clause-laws
returns-clause-laws g c = one_to_one g.R.Rate.layout.lanes g.met.R.Rate.lawful.width
