use Rattle.std.proofs.Common.{◌≡◌, ℕ, ◌+◌, ◌<◌, ◌≤◌, Bool, true, false, List, [], ◌∷◌, length, get_or, drop, Ok, Result, sym, refl, ap, ◌∙◌, arith, rules}
use Rattle.std.proofs.lemmas.List.{drop_more, drop_all}
use Rattle.lanes.specs.Rates.{Layout}
use Rattle.receiver.specs.Hunts.{Hunt, hunt_after, hunt_answer, hunts_after, hunts_answer, is_quiet}
use Rattle.receiver.specs.declared.refusal.Refusal.{Refusal}
use Rattle.receiver.specs.declared.told.Told.{Told}
use Rattle.receiver.specs.declared.told.Told.TheVariants.{Quiet}
use Rattle.receiver.proofs.hunting.Hunting.ticks.Goals as goal

module _ (r : Layout) (h : Hunt) (words : List ℕ) (i : ℕ) where
  more_after : i < length words → is_quiet (hunt_answer r h (get_or words i 0)) ≡ true → hunts_after r h (drop i words) ≡ hunts_after r (hunt_after r h (get_or words i 0)) (drop (i + 1) words)
  unfolding hunts_after
  more_after l e = rw (drop_more words i 0 l) (rw e refl)

  more_answer : i < length words → is_quiet (hunt_answer r h (get_or words i 0)) ≡ true → hunts_answer r h (drop i words) ≡ hunts_answer r (hunt_after r h (get_or words i 0)) (drop (i + 1) words)
  unfolding hunts_answer
  more_answer l e = rw (drop_more words i 0 l) (rw e refl)

  last_after : i < length words → is_quiet (hunt_answer r h (get_or words i 0)) ≡ false → hunts_after r h (drop i words) ≡ hunt_after r h (get_or words i 0)
  unfolding hunts_after
  last_after l e = rw (drop_more words i 0 l) (rw e refl)

  last_answer : i < length words → is_quiet (hunt_answer r h (get_or words i 0)) ≡ false → hunts_answer r h (drop i words) ≡ hunt_answer r h (get_or words i 0)
  unfolding hunts_answer
  last_answer l e = rw (drop_more words i 0 l) (rw e refl)

  end_after : length words ≤ i → hunts_after r h (drop i words) ≡ h
  unfolding hunts_after
  end_after l = rw (drop_all i words l) refl

  end_answer : length words ≤ i → hunts_answer r h (drop i words) ≡ hunts_answer r h []
  end_answer l = rw (drop_all i words l) refl

pub loop-word-init : goal.loop-word-init
loop-word-init g c = record { receiver = refl; answer = refl }

pub loop-word-preserved : goal.loop-word-preserved
loop-word-preserved g c =
    let r = g.R.Rate.layout in
    let h : Hunt = c.loop-word.self in
    let ws : List ℕ = c.args.words.now in
    let i : ℕ = c.loop-word.word-index in
    let e : is_quiet (hunt_answer r h (get_or ws i 0)) ≡ true = sym (ap is_quiet c.tick-answer.ensures.answer) ∙ sym c.if-not-is_quiet.ensures in
    record {
      receiver = ap (λ (k : Hunt). hunts_after r k (drop (i + 1) ws)) c.tick-answer.ensures.receiver ∙ sym (more_after r h ws i c.loop-word-test.true e) ∙ c.loop-word.invariant.receiver;
      answer = ap (λ (k : Hunt). hunts_answer r k (drop (i + 1) ws)) c.tick-answer.ensures.receiver ∙ sym (more_answer r h ws i c.loop-word-test.true e) ∙ c.loop-word.invariant.answer;
    }

pub returns-then-not-is_quiet : goal.returns-then-not-is_quiet
returns-then-not-is_quiet g c =
    let r = g.R.Rate.layout in
    let h : Hunt = c.loop-word.self in
    let ws : List ℕ = c.args.words.now in
    let i : ℕ = c.loop-word.word-index in
    let e : is_quiet (hunt_answer r h (get_or ws i 0)) ≡ false = sym (ap is_quiet c.tick-answer.ensures.answer) ∙ sym c.if-not-is_quiet.ensures in
    record {
      receiver = c.tick-answer.ensures.receiver ∙ sym (last_after r h ws i c.loop-word-test.true e) ∙ c.loop-word.invariant.receiver;
      answer = c.tick-answer.ensures.answer ∙ sym (last_answer r h ws i c.loop-word-test.true e) ∙ c.loop-word.invariant.answer;
    }

quiet_end : (r : Layout) (h : Hunt) → hunts_answer r h [] ≡ Ok Quiet
unfolding hunts_answer
quiet_end r h = refl

pub returns : goal.returns
returns g c =
    let r = g.R.Rate.layout in
    let h : Hunt = c.loop-word.self in
    let ws : List ℕ = c.args.words.now in
    let i : ℕ = c.loop-word.word-index in
    record {
      receiver = sym (end_after r h ws i c.loop-word-test.false) ∙ c.loop-word.invariant.receiver;
      answer = sym (quiet_end r h) ∙ sym (end_answer r h ws i c.loop-word-test.false) ∙ c.loop-word.invariant.answer;
    }
