-- The laws of hunting.
use Rattle.std.proofs.Common.{◌≡◌, ℕ, ◌<◌, Bool, true, false, Ok, Err, Some, None, Result, Option, List, length, replicate, sym, refl, ap, subst, ◌∙◌, arith}
use Rattle.std.specs.List.{list_all}
use Rattle.lanes.specs.Faults.{five_failed}
use Rattle.lanes.specs.Rates.{Layout, marker_period}
use Rattle.lanes.specs.declared.lock.Lock.{Lock}
use Rattle.lanes.specs.declared.lock.Lock.TheVariants.{Searching}
use Rattle.lanes.specs.declared.lock.Event.{Event}
use Rattle.lanes.specs.declared.lock.Event.TheVariants.{Locks, FifthFailure}
use Rattle.receiver.specs.Counts.{one_more}
use Rattle.receiver.specs.Faults.{ticks_of, five_failures, lane_twice, too_much_skew}
use Rattle.receiver.specs.Hunts.{Hunt, judged, judged_tick, told, settled, is_ready, last_lock, hunt_heard, hunt_after, hunt_answer}
use Rattle.receiver.specs.Laws.{SetBack, IsAligned, HuntLaws, Names, Lowest, FailsFifth, LocksNow, AllLocked, DifferentLanes, NearSkews}
use Rattle.receiver.specs.Positions.{locks_after, event_at, is_fifth_failure, is_lock, is_locked, failed_five, just_locked, lane_shared}
use Rattle.receiver.specs.Recent.{heard}
use Rattle.receiver.specs.Refusals.{accepted_word}
use Rattle.receiver.specs.Skews.{too_wide}
use Rattle.receiver.specs.declared.fault.Fault.{Fault}
use Rattle.receiver.specs.declared.fault.Fault.TheVariants.{Lanes, Alignment}
use Rattle.receiver.specs.declared.fault.Misaligned.{Misaligned}
use Rattle.receiver.specs.declared.refusal.Refusal.{Refusal}
use Rattle.receiver.specs.declared.told.Told.{Told}
use Rattle.receiver.specs.declared.told.Told.TheVariants.{Quiet, Ready, Setback}
use Rattle.receiver.proofs.Advancing.{judged_five, judged_err, judged_ok, length-after}
use Rattle.receiver.proofs.Hearing.{windows_heard, ticks_counted}
use Rattle.receiver.proofs.Judging.{twice_told, skew_told, ready_told}
use Rattle.receiver.proofs.Ticking.{accepted_so, heard_after, heard_answer, refused_answer}
use Rattle.receiver.proofs.Verdicts.{fifth_so, lock_so, lowest_so, none_so, all_locked, lowest_shared, lanes_differ, skews_near, not_near, near_enough, lock_skew, locked_all, none_shared}

module _ (r : Layout) (h : Hunt) (word : ℕ) where
  abbrev recent : List ℕ
  recent = heard h.recent word

  abbrev locks : List Lock
  locks = locks_after r recent h.locks

  abbrev period : ℕ
  period = marker_period r

  abbrev count : ℕ
  count = one_more h.ticks

  abbrev judgement : Result Told Fault
  judgement = judged r recent h.locks count

  -- by the five tests of a tick, in their order
  pub record Verdict : Type 0 where
    pub ready : judgement ≡ Ok Ready → (list_all is_locked locks ≡ true) × (lane_shared locks ≡ None) × (too_wide period locks ≡ false)
    pub quiet : (f : Fault) → judgement ≡ Ok (Setback f) → ⊥
    pub names : (f : Fault) → judgement ≡ Err f → Names r h word f × (ticks_of f ≡ count)

  fifth_back : (k : ℕ) → event_at r recent h.locks k ≡ FifthFailure → is_fifth_failure (event_at r recent h.locks k) ≡ true
  fifth_back k e = rw e refl

  lock_back : (k : ℕ) → event_at r recent h.locks k ≡ Locks → is_lock (event_at r recent h.locks k) ≡ true
  lock_back k e = rw e refl

  no_fifth : failed_five r recent h.locks ≡ None → (i : ℕ) → (i < length h.locks) × (event_at r recent h.locks i ≡ FifthFailure) → ⊥
  unfolding failed_five
  no_fifth e = none_so (λ k. event_at r recent h.locks k ≡ FifthFailure) (λ k. is_fifth_failure (event_at r recent h.locks k)) (length h.locks) fifth_back e

  no_lock : just_locked r recent h.locks ≡ None → (i : ℕ) → (i < length h.locks) × (event_at r recent h.locks i ≡ Locks) → ⊥
  unfolding just_locked
  no_lock e = none_so (λ k. event_at r recent h.locks k ≡ Locks) (λ k. is_lock (event_at r recent h.locks k)) (length h.locks) lock_back e

  first_fifth : (i : ℕ) → failed_five r recent h.locks ≡ Some i → Lowest (FailsFifth r h word) i
  unfolding failed_five
  first_fifth i e = lowest_so (λ k. event_at r recent h.locks k ≡ FifthFailure) (λ k. is_fifth_failure (event_at r recent h.locks k)) (length h.locks) i (λ k. fifth_so (event_at r recent h.locks k)) fifth_back e

  five_at : (i : ℕ) → failed_five r recent h.locks ≡ Some i → FailsFifth r h word i
  five_at i e = (first_fifth i e).0

  by_five : (i : ℕ) → failed_five r recent h.locks ≡ Some i → Verdict
  by_five i e =
      let j : judgement ≡ Err (five_failures i count) = sym (judged_five r recent h.locks count i (five_failed i count) e refl) in
      record {
        ready = λ p. absurd (cc);
        quiet = λ f p. absurd (cc);
        names = λ f p.
            let s : f ≡ five_failures i count = cc in
            rw s (first_fifth i e, refl);
      }

  by_none : failed_five r recent h.locks ≡ None → just_locked r recent h.locks ≡ None → Verdict
  by_none e d =
      let j : judgement ≡ Ok Quiet = sym (judged_ok r recent h.locks count e Quiet (rw d refl)) in
      record { ready = λ p. absurd (cc); quiet = λ f p. absurd (cc); names = λ f p. absurd (cc) }

  first_lock : (k : ℕ) → just_locked r recent h.locks ≡ Some k → Lowest (LocksNow r h word) k
  unfolding just_locked
  first_lock k d = lowest_so (λ k. event_at r recent h.locks k ≡ Locks) (λ k. is_lock (event_at r recent h.locks k)) (length h.locks) k (λ k. lock_so (event_at r recent h.locks k)) lock_back d

  module _ (e : failed_five r recent h.locks ≡ None) (k : ℕ) (d : just_locked r recent h.locks ≡ Some k) where
    by_some : (all : Bool) → list_all is_locked locks ≡ all → (shared : Option ℕ) → lane_shared locks ≡ shared → (wide : Bool) → too_wide period locks ≡ wide → Verdict
    by_some false a shared b wide c =
        let j : judgement ≡ Ok Quiet = sym (judged_ok r recent h.locks count e Quiet (rw (d, a) refl)) in
        record { ready = λ p. absurd (cc); quiet = λ f p. absurd (cc); names = λ f p. absurd (cc) }
    by_some true a (Some i) b wide c =
        let j : judgement ≡ Err (Alignment (lane_twice i count)) = sym (judged_err r recent h.locks count e (lane_twice i count) (rw d (sym (twice_told period locks count k a i b)))) in
        record {
          ready = λ p. absurd (cc);
          quiet = λ f p. absurd (cc);
          names = λ f p.
              let s : f ≡ Alignment (lane_twice i count) = cc in
              rw s ((no_fifth e, all_locked locks a, lowest_shared locks i b), refl);
        }
    by_some true a None b true c =
        let j : judgement ≡ Err (Alignment (too_much_skew k count)) = sym (judged_err r recent h.locks count e (too_much_skew k count) (rw d (sym (skew_told period locks count k a b c)))) in
        record {
          ready = λ p. absurd (cc);
          quiet = λ f p. absurd (cc);
          names = λ f p.
              let s : f ≡ Alignment (too_much_skew k count) = cc in
              let first = first_lock k d in
              rw s ((no_fifth e, all_locked locks a, (lanes_differ locks b, not_near locks period k (omega (arith, length-after r recent h.locks, first.0.0)) (lock_skew r recent h.locks k first.0.0 first.0.1) c, first)), refl);
        }
    by_some true a None b false c =
        let j : judgement ≡ Ok Ready = sym (judged_ok r recent h.locks count e Ready (rw d (sym (ready_told period locks count k a b c)))) in
        record { ready = λ p. (a, b, c); quiet = λ f p. absurd (cc); names = λ f p. absurd (cc) }

  pub verdict : Verdict
  verdict = five (failed_five r recent h.locks) refl
    where
      just : failed_five r recent h.locks ≡ None → (o : Option ℕ) → just_locked r recent h.locks ≡ o → Verdict
      just e None d = by_none e d
      just e (Some k) d = by_some e k d (list_all is_locked locks) refl (lane_shared locks) refl (too_wide period locks) refl

      five : (o : Option ℕ) → failed_five r recent h.locks ≡ o → Verdict
      five (Some i) e = by_five i e
      five None e = just e (just_locked r recent h.locks) refl

abbrev good : Told → Result Told Fault
good t = Ok t

abbrev answered : Result Told Fault → Result Told Refusal
answered j = Ok (told j)

abbrev bad : Fault → Result Told Fault
bad f = Err f

module _ (r : Layout) where
  -- the tick is accepted, and its judgement tells
  told_so : (h : Hunt) (word : ℕ) (t : Told) → hunt_answer r h word ≡ Ok t → (hunt_after r h word ≡ hunt_heard r h word) × (told (judgement r h word) ≡ t)
  told_so h word t e = split (accepted_word r.lanes h.ready word) refl
    where
      split : (a : Result ℕ Refusal) → accepted_word r.lanes h.ready word ≡ a → (hunt_after r h word ≡ hunt_heard r h word) × (told (judgement r h word) ≡ t)
      split (Err x) d = let z : ◌≡◌ {A = Result Told Refusal} (Err x) (Ok t) = sym (refused_answer r h word x d) ∙ e in absurd (cc)
      split (Ok w) d =
          let same : w ≡ word = (accepted_so r.lanes h.ready word w d).1 in
          let z : ◌≡◌ {A = Result Told Refusal} (Ok (told (judged_tick r h w))) (Ok t) = sym (heard_answer r h word w d) ∙ e in
          let y : told (judged_tick r h w) ≡ t = cc in
          (heard_after r h word w d ∙ ap (hunt_heard r h) same, ap (λ (v : ℕ). told (judged_tick r h v)) (sym same) ∙ y)

  module _ (h : Hunt) (word : ℕ) where
    after_ticks : (hunt_heard r h word).ticks ≡ count r h word
    unfolding hunt_heard
    after_ticks = refl

    after_recent : (hunt_heard r h word).recent ≡ recent r h word
    unfolding hunt_heard
    after_recent = refl

    after_locks : (hunt_heard r h word).locks ≡ settled (judgement r h word) (locks r h word)
    unfolding hunt_heard
    after_locks = refl

    after_ready : (hunt_heard r h word).ready ≡ is_ready (told (judgement r h word))
    unfolding hunt_heard
    after_ready = refl

    judged_setback : (fault : Fault) → told (judgement r h word) ≡ Setback fault → judgement r h word ≡ Err fault
    judged_setback fault e = split (judgement r h word) refl
      where
        split : (j : Result Told Fault) → judgement r h word ≡ j → judgement r h word ≡ Err fault
        split (Ok t) d = let s : t ≡ Setback fault = sym (ap told d) ∙ e in absurd ((verdict r h word).quiet fault (d ∙ ap (λ (x : Told). good x) s))
        split (Err f) d = let s : Setback f ≡ Setback fault = sym (ap told d) ∙ e in let z : f ≡ fault = cc in d ∙ ap (λ (x : Fault). bad x) z

    judged_ready : told (judgement r h word) ≡ Ready → judgement r h word ≡ Ok Ready
    judged_ready e = split (judgement r h word) refl
      where
        split : (j : Result Told Fault) → judgement r h word ≡ j → judgement r h word ≡ Ok Ready
        split (Ok t) d = let s : t ≡ Ready = sym (ap told d) ∙ e in d ∙ ap (λ (x : Told). good x) s
        split (Err f) d = let s : Setback f ≡ Ready = sym (ap told d) ∙ e in absurd (cc)

    set_back : (fault : Fault) → hunt_answer r h word ≡ Ok (Setback fault) → SetBack r h word fault
    set_back fault e =
        let t = told_so h word (Setback fault) e in
        let j = judged_setback fault t.1 in
        let n = (verdict r h word).names fault j in
        record {
          names = n.0;
          ticks = n.1 ∙ sym (ap (λ (k : Hunt). k.ticks) t.0 ∙ after_ticks);
          recent = ap (λ (k : Hunt). k.recent) t.0 ∙ after_recent;
          locks = ap (λ (k : Hunt). k.locks) t.0 ∙ after_locks ∙ ap (λ (x : Result Told Fault). settled x (locks r h word)) j
              ∙ ap (λ (k : ℕ). replicate k Searching) (length-after r (recent r h word) h.locks);
          ready = ap (λ (k : Hunt). k.ready) t.0 ∙ after_ready ∙ ap is_ready t.1;
        }

    aligned : hunt_answer r h word ≡ Ok Ready → IsAligned r (hunt_after r h word)
    aligned e =
        let t = told_so h word Ready e in
        let j = judged_ready t.1 in
        let v = (verdict r h word).ready j in
        let ls : (hunt_after r h word).locks ≡ locks r h word = ap (λ (k : Hunt). k.locks) t.0 ∙ after_locks ∙ ap (λ (x : Result Told Fault). settled x (locks r h word)) j in
        record {
          ready = ap (λ (k : Hunt). k.ready) t.0 ∙ after_ready ∙ ap is_ready t.1;
          locked = subst AllLocked (sym ls) (all_locked (locks r h word) v.0);
          lanes = subst DifferentLanes (sym ls) (lanes_differ (locks r h word) v.1);
          skews = subst (NearSkews (marker_period r)) (sym ls) (skews_near (locks r h word) (marker_period r) v.2);
        }

    fifth : accepted_word r.lanes h.ready word ≡ Ok word → (i : ℕ) → FailsFifth r h word i → (p : ℕ) × (hunt_answer r h word ≡ Ok (Setback (five_failures p (count r h word))))
    fifth fine i f = split (failed_five r (recent r h word) h.locks) refl
      where
        split : (o : Option ℕ) → failed_five r (recent r h word) h.locks ≡ o → (p : ℕ) × (hunt_answer r h word ≡ Ok (Setback (five_failures p (count r h word))))
        split None e = absurd (no_fifth r h word e i f)
        split (Some p) e =
            let j : judgement r h word ≡ Err (five_failures p (count r h word)) = sym (judged_five r (recent r h word) h.locks (count r h word) p (five_failed p (count r h word)) e refl) in
            (p, heard_answer r h word word fine ∙ ap (λ (x : Result Told Fault). answered x) j)

    at_once : accepted_word r.lanes h.ready word ≡ Ok word → ((i : ℕ) → FailsFifth r h word i → ⊥) → (k : ℕ) → LocksNow r h word k →
        AllLocked (locks r h word) → DifferentLanes (locks r h word) → NearSkews (marker_period r) (locks r h word) → hunt_answer r h word ≡ Ok Ready
    at_once fine unfailed k now all differ near = five (failed_five r (recent r h word) h.locks) refl
      where
        ready : failed_five r (recent r h word) h.locks ≡ None → (k : ℕ) → just_locked r (recent r h word) h.locks ≡ Some k → hunt_answer r h word ≡ Ok Ready
        ready e k d =
            let first = first_lock r h word k d in
            let a = locked_all (locks r h word) all in
            let b = none_shared (locks r h word) differ in
            let inside : k < length (locks r h word) = omega (arith, length-after r (recent r h word) h.locks, first.0.0) in
            let c = near_enough (locks r h word) (marker_period r) k inside (lock_skew r (recent r h word) h.locks k first.0.0 first.0.1) near in
            let j : judgement r h word ≡ Ok Ready = sym (judged_ok r (recent r h word) h.locks (count r h word) e Ready (rw d (sym (ready_told (marker_period r) (locks r h word) (count r h word) k a b c)))) in
            heard_answer r h word word fine ∙ ap (λ (x : Result Told Fault). answered x) j

        just : failed_five r (recent r h word) h.locks ≡ None → (o : Option ℕ) → just_locked r (recent r h word) h.locks ≡ o → hunt_answer r h word ≡ Ok Ready
        just e (Some k) d = ready e k d
        just e None d = absurd (no_lock r h word d k now)

        five : (o : Option ℕ) → failed_five r (recent r h word) h.locks ≡ o → hunt_answer r h word ≡ Ok Ready
        five None e = just e (just_locked r (recent r h word) h.locks) refl
        five (Some p) e = absurd (unfailed p (five_at r h word p e))

  pub hunt_laws : HuntLaws r
  hunt_laws = record { windows = windows_heard r; ticks = ticks_counted r; setback = set_back; ready = aligned; fifth = fifth; at_once = at_once }
