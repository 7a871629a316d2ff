-- What a hunt has heard, of its accepted ticks.
use Rattle.std.proofs.Common.{◌≡◌, ℕ, zero, suc, ◌+◌, ◌-◌, ◌<◌, ◌≤◌, Ok, Err, Some, None, Result, Option, List, [], ◌∷◌, ◌++◌, length, map, get_or, take, drop, reverse, min, sym, refl, ap, ◌∙◌, ap₂, inl, inr, append_assoc, append-nil, arith, length-drop}
use mathlib.Core.List.{reverse-append}
use lib.ListN.{length-reverse}
use Rattle.std.proofs.lemmas.Bool.{cases_lt, lt-ltb, le-ltb}
use Rattle.std.proofs.lemmas.List.{ext_get_or, get_or-reverse, get_or-take, get_or-drop, get_or-map, take-take, length-take, length-map}
use Rattle.bits.specs.Bits.{bit, number, table, nth}
use Rattle.bits.proofs.Tables.{length-table, nth-table}
use Rattle.lanes.specs.Rates.{Layout}
use Rattle.receiver.specs.Counts.{top, one_more}
use Rattle.receiver.specs.Hunts.{Hunt, fresh, hunt_after, hunt_heard}
use Rattle.receiver.specs.Laws.{run, accepted, word_before, window_in}
use Rattle.receiver.specs.Recent.{heard, kept, last_bits, window}
use Rattle.receiver.specs.Refusals.{accepted_word}
use Rattle.receiver.specs.declared.refusal.Refusal.{Refusal}
use Rattle.receiver.proofs.Ticking.{refused_after, heard_after}

-- n words kept of those heard; n is a variable, since 8,192 is not to be counted down
unfoldable hears : ℕ → List ℕ → List ℕ → List ℕ
hears n recent [] = recent
hears n recent (w ∷ ws) = hears n (kept n recent w) ws

take_inner : (m k : ℕ) (xs ys : List ℕ) → m ≤ k → take m (xs ++ take k ys) ≡ take m (xs ++ ys)
take_inner m k [] ys h = take-take m k ys h
take_inner zero k (x ∷ xs) ys h = refl
take_inner (suc m) k (x ∷ xs) ys h = ap (λ (l : List ℕ). x ∷ l) (take_inner m k xs ys (omega arith))

hears_is : (n : ℕ) (ws recent : List ℕ) → take n recent ≡ recent → hears n recent ws ≡ take n (reverse ws ++ recent)
unfolding hears
hears_is n [] recent e = sym e
hears_is n (w ∷ ws) recent e =
    hears_is n ws (kept n recent w) (take-take n n (w ∷ recent) (omega arith))
    ∙ take_inner n n (reverse ws) (w ∷ recent) (omega arith)
    ∙ ap (take n) (sym (append_assoc (reverse ws) (w ∷ []) recent) ∙ ap (λ (l : List ℕ). l ++ recent) (sym (reverse-append (w ∷ []) ws)))

take_none : (n : ℕ) → ◌≡◌ {A = List ℕ} (take n []) []
take_none zero = refl
take_none (suc n) = refl

recent_heard : (r : Layout) (h : Hunt) (w : ℕ) → (hunt_heard r h w).recent ≡ kept 8192 h.recent w
unfolding hunt_heard heard
recent_heard r h w = refl

ticks_heard : (r : Layout) (h : Hunt) (w : ℕ) → (hunt_heard r h w).ticks ≡ one_more h.ticks
unfolding hunt_heard
ticks_heard r h w = refl

module _ (r : Layout) where
  heard_run : (h : Hunt) (words : List ℕ) → (run r h words).recent ≡ hears 8192 h.recent (accepted r h words)
  unfolding run accepted hears
  heard_run h [] = refl
  heard_run h (word ∷ words) = split (accepted_word r.lanes h.ready word) refl (heard_run (hunt_after r h word) words)
    where
      next : List ℕ
      next = accepted r (hunt_after r h word) words

      split : (a : Result ℕ Refusal) → accepted_word r.lanes h.ready word ≡ a → (run r (hunt_after r h word) words).recent ≡ hears 8192 (hunt_after r h word).recent next
          → (run r (hunt_after r h word) words).recent ≡ hears 8192 h.recent (word_before (accepted_word r.lanes h.ready word) next)
      split (Ok w) e ih =
          ih ∙ ap (λ (xs : List ℕ). hears 8192 xs next) (ap (λ (k : Hunt). k.recent) (heard_after r h word w e) ∙ recent_heard r h w)
          ∙ ap (λ (a : Result ℕ Refusal). hears 8192 h.recent (word_before a next)) (sym e)
      split (Err x) e ih =
          ih ∙ ap (λ (xs : List ℕ). hears 8192 xs next) (ap (λ (k : Hunt). k.recent) (refused_after r h word x e))
          ∙ ap (λ (a : Result ℕ Refusal). hears 8192 h.recent (word_before a next)) (sym e)

  ticks_run : (h : Hunt) (words : List ℕ) → h.ticks ≤ top → (run r h words).ticks ≡ min (h.ticks + length (accepted r h words)) top
  unfolding run accepted
  ticks_run h [] l = omega arith
  ticks_run h (word ∷ words) l = split (accepted_word r.lanes h.ready word) refl (ticks_run (hunt_after r h word) words)
    where
      next : List ℕ
      next = accepted r (hunt_after r h word) words

      split : (a : Result ℕ Refusal) → accepted_word r.lanes h.ready word ≡ a → ((hunt_after r h word).ticks ≤ top → (run r (hunt_after r h word) words).ticks ≡ min ((hunt_after r h word).ticks + length next) top)
          → (run r (hunt_after r h word) words).ticks ≡ min (h.ticks + length (word_before (accepted_word r.lanes h.ready word) next)) top
      split (Ok w) e ih =
          let t : (hunt_after r h word).ticks ≡ one_more h.ticks = ap (λ (k : Hunt). k.ticks) (heard_after r h word w e) ∙ ticks_heard r h w in
          let d : length (word_before (accepted_word r.lanes h.ready word) next) ≡ suc (length next) = ap (λ (a : Result ℕ Refusal). length (word_before a next)) e in
          ih (omega arith) ∙ omega arith
      split (Err x) e ih =
          let t : (hunt_after r h word).ticks ≡ h.ticks = ap (λ (k : Hunt). k.ticks) (refused_after r h word x e) in
          let d : length (word_before (accepted_word r.lanes h.ready word) next) ≡ length next = ap (λ (a : Result ℕ Refusal). length (word_before a next)) e in
          ih (omega arith) ∙ omega arith

  pub ticks_counted : (words : List ℕ) → (run r (fresh r) words).ticks ≡ min (length (accepted r (fresh r) words)) top
  ticks_counted words = ticks_run (fresh r) words (omega arith) ∙ omega arith

-- the last bits heard are the last of all
same_bits : (n : ℕ) (ws : List ℕ) (i : ℕ) → 120 ≤ n → 120 ≤ length ws → table 120 (λ k. bit (nth (take n (reverse ws)) (120 - 1 - k)) i) ≡ drop (length ws - 120) (map (λ w. bit w i) ws)
same_bits n ws i h l =
    let f : ℕ → ℕ = λ k. bit (nth (take n (reverse ws)) (120 - 1 - k)) i in
    let bs : List ℕ = map (λ w. bit w i) ws in
    let long : length (drop (length ws - 120) bs) ≡ 120 = length-drop (length ws - 120) bs ∙ omega (arith, length-map ws (λ (w : ℕ). bit w i)) in
    ext_get_or 0 (table 120 f) (drop (length ws - 120) bs) (length-table 120 f ∙ sym long) (λ k m.
    let b : k < 120 = omega (arith, length-table 120 f) in
    nth-table 120 f k b
    ∙ ap (λ (w : ℕ). bit w i) (get_or-take n (reverse ws) (120 - 1 - k) 0 (omega arith) ∙ get_or-reverse ws (120 - 1 - k) 0 (omega arith) ∙ ap (λ (j : ℕ). get_or ws j 0) (omega arith))
    ∙ sym (get_or-map (λ w. bit w i) ws (length ws - 120 + k) 0 0 (omega arith))
    ∙ sym (get_or-drop (length ws - 120) bs k 0))

window_of : (n : ℕ) (ws : List ℕ) (i : ℕ) → 120 ≤ n → window (take n (reverse ws)) i ≡ window_in (map (λ w. bit w i) ws)
unfolding window last_bits
window_of n ws i h = elim (cases_lt (length ws) 120) [
  | inl l ↦
      let a = lt-ltb (length (take n (reverse ws))) 120 (omega (arith, length-take n (reverse ws), length-reverse ws)) in
      let b = lt-ltb (length (map (λ (w : ℕ). bit w i) ws)) 120 (omega (arith, length-map ws (λ (w : ℕ). bit w i))) in
      rw (a, b) refl
  | inr l ↦
      let m = length-map ws (λ (w : ℕ). bit w i) in
      let a = le-ltb (length (take n (reverse ws))) 120 (omega (arith, length-take n (reverse ws), length-reverse ws)) in
      let b = le-ltb (length (map (λ (w : ℕ). bit w i) ws)) 120 (omega arith) in
      rw (a, b) (ap (λ (bs : List ℕ). Some (number bs)) (same_bits n ws i h l ∙ ap (λ (k : ℕ). drop (k - 120) (map (λ w. bit w i) ws)) (sym m)))
]

pub windows_heard : (r : Layout) (words : List ℕ) (i : ℕ) → window (run r (fresh r) words).recent i ≡ window_in (map (λ w. bit w i) (accepted r (fresh r) words))
windows_heard r words i =
    let ws : List ℕ = accepted r (fresh r) words in
    ap (λ (xs : List ℕ). window xs i) (heard_run r (fresh r) words ∙ hears_is 8192 ws [] (take_none 8192) ∙ ap (take 8192) (append-nil (reverse ws)))
    ∙ window_of 8192 ws i (omega arith)
