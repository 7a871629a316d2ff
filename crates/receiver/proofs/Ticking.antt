-- A tick of a hunting receiver, with the ticks that pend.
use Rattle.std.proofs.Common.{◌≡◌, ℕ, ◌+◌, ◌<◌, ◌≤◌, Bool, true, false, Ok, Err, None, Some, Option, Result, List, [], ◌∷◌, length, map, get_or, take, replicate, refl, sym, ap, ◌∙◌, ap₂, inl, inr, arith}
use Rattle.std.proofs.lemmas.Bool.{cases_lt, cases_Bool}
use Rattle.std.proofs.lemmas.List.{get_or-replicate, length-replicate}
use Rattle.bits.specs.Lowest.{lowest}
use Rattle.bits.proofs.Lowest.{lowest_none}
use Rattle.lanes.specs.Locks.{next_lock}
use Rattle.lanes.specs.Rates.{Layout, marker_period}
use Rattle.lanes.specs.declared.lock.Lock.{Lock}
use Rattle.lanes.specs.declared.lock.Lock.TheVariants.{Searching}
use Rattle.lanes.specs.declared.lock.Event.{Event}
use Rattle.lanes.specs.declared.lock.Event.TheVariants.{Quiet as QuietEvent}
use Rattle.receiver.specs.Counts.{one_more}
use Rattle.receiver.specs.Hunts.{Hunt, judged, judged_tick, told, settled, is_ready, hunt_heard, hunt_after, hunt_answer}
use Rattle.receiver.specs.Recent.{heard}
use Rattle.receiver.specs.Pending.{lock_later, locks_later, ticks_to_test}
use Rattle.receiver.specs.Positions.{each, passes_at, locks_after, event_at, is_fifth_failure, is_lock, failed_five, just_locked, lock_at}
use Rattle.receiver.specs.Refusals.{accepted_word, word_or, stray_bit}
use Rattle.receiver.specs.Skews.{ticks_left}
use Rattle.receiver.specs.declared.fault.Fault.{Fault}
use Rattle.receiver.specs.declared.refusal.Refusal.{Refusal}
use Rattle.receiver.specs.declared.told.Told.{Told}
use Rattle.receiver.specs.declared.told.Told.TheVariants.{Quiet}
use Rattle.receiver.proofs.Advancing.{moved_later, event_later, after_near, length-after, length-later, judged_ok}
use Rattle.receiver.proofs.Moving.{each-same, each-all}
use Rattle.receiver.proofs.Quiet.{quiet_lock, quiet_event, later_none}

-- a word is accepted as it is, by a receiver that is not ready
pub accepted_so : (lanes : ℕ) (ready : Bool) (word w : ℕ) → accepted_word lanes ready word ≡ Ok w → (ready ≡ false) × (w ≡ word)
unfolding accepted_word
accepted_so lanes true word w e = absurd (cc)
accepted_so lanes false word w e = (refl, split (stray_bit lanes word) e)
  where
    split : (o : Option ℕ) → word_or word o ≡ Ok w → w ≡ word
    split None e = cc
    split (Some i) e = absurd (cc)

pub all_later_none : (xs : List Lock) → locks_later 0 xs ≡ xs
all_later_none [] = refl
all_later_none (x ∷ xs) = ap₂ ◌∷◌ (later_none x) (all_later_none xs)

module _ (r : Layout) where
  pub refused_after : (h : Hunt) (word : ℕ) (e : Refusal) → accepted_word r.lanes h.ready word ≡ Err e → hunt_after r h word ≡ h
  unfolding hunt_after
  refused_after h word e d = rw d refl

  pub refused_answer : (h : Hunt) (word : ℕ) (e : Refusal) → accepted_word r.lanes h.ready word ≡ Err e → hunt_answer r h word ≡ Err e
  unfolding hunt_answer
  refused_answer h word e d = rw d refl

  pub heard_after : (h : Hunt) (word w : ℕ) → accepted_word r.lanes h.ready word ≡ Ok w → hunt_after r h word ≡ hunt_heard r h w
  unfolding hunt_after
  heard_after h word w d = rw d refl

  pub heard_answer : (h : Hunt) (word w : ℕ) → accepted_word r.lanes h.ready word ≡ Ok w → hunt_answer r h word ≡ Ok (told (judged_tick r h w))
  unfolding hunt_answer
  heard_answer h word w d = rw d refl

  -- a tick on which no test is due changes nothing but the ticks to the next
  module _ (recent : List ℕ) (n due : ℕ) (xs : List Lock) (early : n + 1 < due) (tests : (i : ℕ) → i < length xs → due ≤ ticks_to_test (lock_at xs i)) where
    pub quiet_after : locks_after r recent (locks_later n xs) ≡ locks_later (n + 1) xs
    quiet_after =
        sym (moved_later r recent n xs)
        ∙ each-same (λ i lock. next_lock r (passes_at r recent i) (lock_later n lock)) (λ i. lock_later (n + 1)) xs Searching (λ i l. let t = tests i l in quiet_lock r (passes_at r recent i) n (lock_at xs i) (omega arith))
        ∙ each-all (lock_later (n + 1)) xs

    no_event : (i : ℕ) → i < length (locks_later n xs) → event_at r recent (locks_later n xs) i ≡ QuietEvent
    no_event i l =
        let t = tests i (omega (arith, length-later n xs)) in
        sym (event_later r recent n xs i) ∙ quiet_event r (passes_at r recent i) n (lock_at xs i) (omega arith)

    pub quiet_judged : (ticks : ℕ) → judged r recent (locks_later n xs) ticks ≡ Ok Quiet
    quiet_judged ticks =
        let locks = locks_later n xs in
        let five : failed_five r recent locks ≡ None = unfold failed_five in lowest_none (λ i. is_fifth_failure (event_at r recent locks i)) (length locks) (λ i l. ap is_fifth_failure (no_event i l)) in
        let just : just_locked r recent locks ≡ None = unfold just_locked in lowest_none (λ i. is_lock (event_at r recent locks i)) (length locks) (λ i l. ap is_lock (no_event i l)) in
        sym (judged_ok r recent locks ticks five Quiet (rw just refl))

  -- no test is more than a period away, also behind a setback
  module _ (recent : List ℕ) (n : ℕ) (xs : List Lock) (near : (i : ℕ) → i < length xs → ticks_left (lock_at xs i) ≤ marker_period r) where
    pub length-settled : (j : Result Told Fault) → length (settled j (locks_after r recent (locks_later n xs))) ≡ length xs
    length-settled (Ok t) = length-after r recent (locks_later n xs) ∙ length-later n xs
    length-settled (Err e) = length-replicate _ _ ∙ length-after r recent (locks_later n xs) ∙ length-later n xs

    pub settled_near : (j : Result Told Fault) (i : ℕ) → i < length xs → ticks_left (lock_at (settled j (locks_after r recent (locks_later n xs))) i) ≤ marker_period r
    settled_near (Ok t) i l = after_near r recent n xs near i l
    settled_near (Err e) i l =
        let k : i < length (locks_after r recent (locks_later n xs)) = omega (arith, length-after r recent (locks_later n xs), length-later n xs) in
        rw (get_or-replicate (length (locks_after r recent (locks_later n xs))) i Searching Searching k) (omega arith)

-- The receiver behind a tick, and what the tick tells, from what its parts leave.
module _ (r : Layout) (h : Hunt) (word w : ℕ) (fine : accepted_word r.lanes h.ready word ≡ Ok w) where
  pub ticked : (recent : List ℕ) (locks : List Lock) (ticks : ℕ) (ready : Bool) → recent ≡ heard h.recent w → ticks ≡ one_more h.ticks
      → locks ≡ settled (judged r recent h.locks ticks) (locks_after r recent h.locks) → ready ≡ is_ready (told (judged r recent h.locks ticks))
      → ◌≡◌ {A = Hunt} (record { recent = recent; locks = locks; ticks = ticks; ready = ready }) (hunt_after r h word)
  unfolding hunt_heard
  ticked recent locks ticks ready a b c d = rw (heard_after r h word w fine) (rw (c, d, a, b) refl)

  pub tick_told : (recent : List ℕ) (ticks : ℕ) (t : Told) → recent ≡ heard h.recent w → ticks ≡ one_more h.ticks → t ≡ told (judged r recent h.locks ticks) → ◌≡◌ {A = Result Told Refusal} (Ok t) (hunt_answer r h word)
  tick_told recent ticks t a b c = rw (heard_answer r h word w fine) (rw (c, a, b) refl)
