-- Where a run over the pairs of an input stands behind so many pairs, and what each step leaves.
use Rattle.std.proofs.Common.{◌≡◌, ℕ, zero, suc, ◌+◌, ◌*◌, ◌<◌, ◌≤◌, List, [], ◌∷◌, ◌++◌, length, take, drop, length-append, length-take-le, append_assoc, append-nil, ap, ◌∙◌, subst, sym, refl, ◌-◌, drop_of_length-le, Option, None, Some, Ok, Err, Result, arith, inl, inr, cond, Bool, true, false, eqb, IfSome, slice_get}
use Rattle.std.specs.Result.{IsErr}
use Rattle.std.specs.Option.{option_map}
use Rattle.std.proofs.lemmas.List.{take-append-le, drop-append-le, take_all}
use Rattle.std.proofs.lemmas.Bool.{cases_lt, cases_Bool, eqb-true}
use Rattle.std.specs.Io.KnownBytes.{Appends, Consumes, IsAtEnd}
use Rattle.std.proofs.KnownBytes.{Appends-trans, Appends-nil}
use Rattle.blocks.specs.declared.refusal.Refusal.TheVariants.{Length, Kind, Start}
use Rattle.bits.specs.Lowest.{lowest, or_else}
use Rattle.blocks.specs.Calls.{bad_kind, begun}
use Rattle.lanes.specs.Rates.{Layout}
use Rattle.sender.specs.declared.refusal.Refusal.{Refusal}
use Rattle.sender.specs.declared.refusal.Refusal.TheVariants.{Buffer, Blocks}
use Rattle.pairs.specs.Strips.{strip_of}
use Rattle.sender.specs.States.{SenderState, groups_of, blocks_due, pair_message, blocks_of, records_refused, send_refused, send_answer, sent_strip, sent_state, opens}
use Rattle.sender.specs.Refusals.{place_of}
use Rattle.pairs.specs.Messages.{group_count}
use Rattle.sender.proofs.Refused.{accepted, strip_sent}
use Rattle.commands.specs.Streams.{AppendsFront, Prints}
use Rattle.commands.specs.Strips.{Run, refusal_behind, joined, stopped, bytes_due, pair_run, unless_refused, run, run_of, Tells, EachLane, part_size, lane_part, lane_bytes, lane_of}
use Rattle.commands.specs.declared.strips.Sent.{Sent}
use Rattle.commands.proofs.Printing.{front_more, front_here}

run_is : (a b c d : ℕ) (xs ys : List (List ℕ)) (p q : Option Refusal) (s : SenderState) → xs ≡ ys → a ≡ b → c ≡ d → p ≡ q
    → ◌≡◌ {A = Run} (record { strips = xs; pairs = a; blocks = c; refused = p; state = s }) (record { strips = ys; pairs = b; blocks = d; refused = q; state = s })
run_is a b c d xs ys p q s e f g h = rw (e, f, g, h) refl

refusal_twice : (m n : ℕ) (o : Option Refusal) → option_map (refusal_behind (m + n)) o ≡ option_map (refusal_behind m) (option_map (refusal_behind n) o)
refusal_twice m n None = refl
refusal_twice m n (Some Buffer) = refl
refusal_twice m n (Some (Blocks Length)) = refl
refusal_twice m n (Some (Blocks (Kind i))) = ap (λ k. Some (Blocks (Kind k))) (omega arith)
refusal_twice m n (Some (Blocks Start)) = refl

joined_assoc : (a b c : Run) → joined (joined a b) c ≡ joined a (joined b c)
joined_assoc a b c = run_is _ _ _ _ _ _ _ _ _ (append_assoc a.strips b.strips c.strips) (omega arith) (omega arith) (refusal_twice a.blocks b.blocks c.refused)

-- what was sent so far
abbrev pub so_far : List (List ℕ) → ℕ → ℕ → SenderState → Run
so_far text pairs blocks s = record { strips = text; pairs = pairs; blocks = blocks; refused = None; state = s }

lane_bytes_add : (size : ℕ) (a b : List (List ℕ)) (l : ℕ) → lane_bytes size (a ++ b) l ≡ lane_bytes size a l ++ lane_bytes size b l
unfolding lane_bytes
lane_bytes_add size [] b l = refl
lane_bytes_add size (x ∷ a) b l = ap (λ y. lane_part size x l ++ y) (lane_bytes_add size a b l) ∙ sym (append_assoc (lane_part size x l) (lane_bytes size a l) (lane_bytes size b l))

lane_bytes_one : (size : ℕ) (a : List (List ℕ)) (x : List ℕ) (l : ℕ) → lane_bytes size (a ++ (x ∷ [])) l ≡ lane_bytes size a l ++ lane_part size x l
unfolding lane_bytes
lane_bytes_one size a x l = lane_bytes_add size a (x ∷ []) l ∙ ap (λ y. lane_bytes size a l ++ y) (append-nil (lane_part size x l))

-- what stands in a list stands there in one of the same length
get_there : {W : Type 0} (xs ys : List W) → length xs ≡ length ys → (l : ℕ) (w : W) → slice_get xs l ≡ Some w → (u : W) × (slice_get ys l ≡ Some u)
get_there [] ys e l w h = absurd cc
get_there (x ∷ xs) [] e l w h = absurd (omega (arith, e))
get_there (x ∷ xs) (y ∷ ys) e zero w h = (y, refl)
get_there (x ∷ xs) (y ∷ ys) e (suc l) w h = get_there xs ys (omega (arith, e)) l w h

module _ (r : Layout) where
  -- the run over xs from s0 is what was sent so far, and then the run over the rest
  pub record Behind (s0 : SenderState) (xs : List ℕ) (s : SenderState) (rest : List ℕ) (sofar : Run) : Type 0 where
    pub most : ℕ
    pub enough : length rest ≤ most
    pub whole : run_of r s0 xs ≡ joined sofar (run r most s rest)

  nothing_so_far : (s : SenderState) (a : Run) → a ≡ joined (so_far [] 0 0 s) a
  nothing_so_far s a = run_is _ _ _ _ _ _ _ _ _ refl (omega arith) (omega arith) (none_before a.refused)
    where
      none_before : (o : Option Refusal) → o ≡ option_map (refusal_behind 0) o
      none_before None = refl
      none_before (Some Buffer) = refl
      none_before (Some (Blocks Length)) = refl
      none_before (Some (Blocks (Kind i))) = ap (λ k. Some (Blocks (Kind k))) (omega arith)
      none_before (Some (Blocks Start)) = refl

  run_begun : (s : SenderState) (xs : List ℕ) → Behind s xs s xs (so_far [] 0 0 s)
  run_begun s xs = record { most = length xs; enough = omega arith; whole = nothing_so_far s (run_of r s xs) }

  run_at_end : (m : ℕ) (s : SenderState) → run r m s [] ≡ stopped s None
  unfolding run
  run_at_end zero s = refl
  run_at_end (suc m) s = refl

  run_step : (m : ℕ) (s : SenderState) (rest : List ℕ) → 0 < length rest → run r (suc m) s rest
      ≡ unless_refused (send_refused (groups_of r.lanes s) (take (bytes_due r s) rest) 1360) s (joined (pair_run r s (take (bytes_due r s) rest)) (run r m (sent_state r s (take (bytes_due r s) rest) 1360) (drop (bytes_due r s) rest)))
  unfolding run
  run_step m s [] h = absurd (omega arith)
  run_step m s (x ∷ xs) h = refl

  -- a piece that the reader gave: whole, or the last
  pub record Piece (s : SenderState) (rest piece more : List ℕ) : Type 0 where
    pub bytes : rest ≡ piece ++ more
    pub size : length piece ≤ bytes_due r s
    pub end : length piece < bytes_due r s → more ≡ []

  piece_due : (s : SenderState) (rest piece more : List ℕ) → Piece s rest piece more → take (bytes_due r s) rest ≡ piece
  piece_due s rest piece more p = elim (cases_lt (length piece) (bytes_due r s)) [
    | inr w ↦ ap (take (bytes_due r s)) p.bytes ∙ take-append-le (bytes_due r s) piece more w ∙ take_all (bytes_due r s) piece p.size
    | inl l ↦ ap (take (bytes_due r s)) (p.bytes ∙ ap (λ l. piece ++ l) (p.end l) ∙ append-nil piece) ∙ take_all (bytes_due r s) piece p.size
  ]

  -- behind one more pair
  next_pair : (s0 : SenderState) (xs : List ℕ) (s : SenderState) (rest piece more : List ℕ) (sofar : Run) → Behind s0 xs s rest sofar → Piece s rest piece more → 0 < length piece
      → send_refused (groups_of r.lanes s) piece 1360 ≡ None → Behind s0 xs (sent_state r s piece 1360) more (joined sofar (pair_run r s piece))
  next_pair s0 xs s rest piece more sofar b p some h =
      let due = piece_due s rest piece more p in
      let full : length piece ≡ bytes_due r s = (accepted _ piece 1360 h).count in
      let room : length rest ≡ length piece + length more = ap length p.bytes ∙ length-append piece more in
      let left : drop (bytes_due r s) rest ≡ more = ap (drop (bytes_due r s)) p.bytes ∙ drop-append-le (bytes_due r s) piece more (omega (arith, full)) ∙ ap (λ l. l ++ more) (drop_of_length-le piece {i = bytes_due r s} (omega (arith, full))) in
      let m = b.most - 1 in
      let most_is : b.most ≡ suc m = omega (arith, b.enough) in
      let here : run r b.most s rest ≡ joined (pair_run r s piece) (run r m (sent_state r s piece 1360) more) =
      ap (λ n. run r n s rest) most_is ∙ run_step m s rest (omega arith)
      ∙ ap (λ l. unless_refused (send_refused (groups_of r.lanes s) l 1360) s (joined (pair_run r s l) (run r m (sent_state r s l 1360) (drop (bytes_due r s) rest)))) due
      ∙ ap (λ o. unless_refused o s (joined (pair_run r s piece) (run r m (sent_state r s piece 1360) (drop (bytes_due r s) rest)))) h
      ∙ ap (λ l. joined (pair_run r s piece) (run r m (sent_state r s piece 1360) l)) left in
      record {
        most = m;
        enough = omega (arith, b.enough);
        whole = b.whole ∙ ap (joined sofar) here ∙ sym (joined_assoc sofar (pair_run r s piece) (run r m (sent_state r s piece 1360) more));
      }

  -- nothing is left
  ended : (s0 : SenderState) (xs : List ℕ) (s : SenderState) (rest : List ℕ) (sofar : Run) → Behind s0 xs s rest sofar → rest ≡ [] → run_of r s0 xs ≡ joined sofar (stopped s None)
  ended s0 xs s rest sofar b e = b.whole ∙ ap (λ l. joined sofar (run r b.most s l)) e ∙ ap (joined sofar) (run_at_end b.most s)

  -- the next pair is refused
  refused_run : (s0 : SenderState) (xs : List ℕ) (s : SenderState) (rest piece more : List ℕ) (sofar : Run) (e : Refusal) → Behind s0 xs s rest sofar → Piece s rest piece more → 0 < length piece
      → send_refused (groups_of r.lanes s) piece 1360 ≡ Some e → run_of r s0 xs ≡ joined sofar (stopped s (Some e))
  refused_run s0 xs s rest piece more sofar e b p some h =
      let due = piece_due s rest piece more p in
      let room : length rest ≡ length piece + length more = ap length p.bytes ∙ length-append piece more in
      let m = b.most - 1 in
      let most_is : b.most ≡ suc m = omega (arith, b.enough) in
      let here : run r b.most s rest ≡ stopped s (Some e) =
      ap (λ n. run r n s rest) most_is ∙ run_step m s rest (omega arith)
      ∙ ap (λ l. unless_refused (send_refused (groups_of r.lanes s) l 1360) s (joined (pair_run r s l) (run r m (sent_state r s l 1360) (drop (bytes_due r s) rest)))) due
      ∙ ap (λ o. unless_refused o s (joined (pair_run r s piece) (run r m (sent_state r s piece 1360) (drop (bytes_due r s) rest)))) h in
      b.whole ∙ ap (joined sofar) here

  pub record Took (s : SenderState) (old new : Option (List ℕ)) (piece : List ℕ) : Type 0 where
    pub bytes : Consumes old new piece
    pub size : length piece ≤ bytes_due r s
    pub end : length piece < bytes_due r s → IsAtEnd new

  abbrev pub strip_is : SenderState → List ℕ → List ℕ
  strip_is s piece = strip_of r.lanes (pair_message r s (blocks_of (groups_of r.lanes s) piece))

  piece_of : (s : SenderState) (rest piece more : List ℕ) → Took s (Some rest) (Some more) piece → Piece s rest piece more
  piece_of s rest piece more k = record { bytes = k.bytes; size = k.size; end = k.end }

  abbrev bytes_on : List (List ℕ) → ℕ → List ℕ
  bytes_on strips l = lane_bytes (part_size r) strips l

  lanes_are : (a b : Run) (l : ℕ) → a ≡ b → bytes_on a.strips l ≡ bytes_on b.strips l
  lanes_are a b l e = ap (λ (x : Run). bytes_on x.strips l) e

  err_prints : {A E : Type 0} (s0 : SenderState) (l : ℕ) (xs : List ℕ) (old new : Option (List ℕ)) (o : Result A E) → IsErr o → AppendsFront old new (lane_of r s0 l xs) → Prints (Some xs) (lane_of r s0 l) old new o
  err_prints s0 l xs old new (Ok x) h f = absurd cc
  err_prints s0 l xs old new (Err e) h f = f

  module _ {W : Type 0} (contents : W → Option (List ℕ)) where
    -- each writer has got its lane's bytes of these strips
    abbrev pub Have : List W → List W → List (List ℕ) → Type 0
    Have old new strips = EachLane old new (λ l v w. Appends (contents v) (contents w) (bytes_on strips l))

    -- a run over an input, a reader, the writers at first and now
    abbrev pub Stands : SenderState → SenderState → Option (List ℕ) → Option (List ℕ) → List W → List W → ℕ → ℕ → Type 0
    Stands s0 s None left old new pairs blocks = Unit {0}
    Stands s0 s (Some xs) None old new pairs blocks = ⊥
    Stands s0 s (Some xs) (Some rest) old new pairs blocks = (strips : List (List ℕ)) × Behind s0 xs s rest (so_far strips pairs blocks s) × Have old new strips

    -- what is written of an input to each writer
    abbrev pub Wrote : {A E : Type 0} → SenderState → Option (List ℕ) → List W → List W → Result A E → Type 0
    Wrote s0 input old new o = EachLane old new (λ l v w. Prints input (lane_of r s0 l) (contents v) (contents w) o)

    pub stands_first : (s : SenderState) (input : Option (List ℕ)) (old : List W) → Stands s s input input old old 0 0
    unfolding lane_bytes
    stands_first s None old = tt
    stands_first s (Some xs) old = ([], run_begun s xs, λ l v w e f. subst (λ (z : W). Appends (contents v) (contents z) []) (some_is v w (sym e ∙ f)) (Appends-nil (contents v)))
      where
        some_is : (v w : W) → ◌≡◌ {A = Option W} (Some v) (Some w) → v ≡ w
        some_is v w e = cc

    pub cut_between : {A E : Type 0} (s0 s : SenderState) (input left : Option (List ℕ)) (old new : List W) (pairs blocks : ℕ) (o : Result A E) → IsErr o → Stands s0 s input left old new pairs blocks
        → Wrote s0 input old new o
    cut_between s0 s None left old new pairs blocks o h t l v w e f = tt
    cut_between s0 s (Some xs) None old new pairs blocks o h t l v w e f = absurd t
    cut_between s0 s (Some xs) (Some rest) old new pairs blocks o h (strips, b, p) l v w e f =
        err_prints s0 l xs (contents v) (contents w) o h
        (front_here (contents v) (contents w) (bytes_on strips l) (bytes_on (run r b.most s rest).strips l) _ (lanes_are _ _ l b.whole ∙ lane_bytes_add (part_size r) strips _ l) (p l v w e f))

    stopped_is : (strips : List (List ℕ)) (l : ℕ) (a : Run) (pairs blocks : ℕ) (s : SenderState) (o : Option Refusal) → a ≡ joined (so_far strips pairs blocks s) (stopped s o) → bytes_on a.strips l ≡ bytes_on strips l
    stopped_is strips l a pairs blocks s o e = lanes_are _ _ l e ∙ ap (λ x. bytes_on x l) (append-nil strips)

    -- The input has ended.
    pub all_sent : (E : Type 0) (s0 s : SenderState) (input left later : Option (List ℕ)) (old new : List W) (pairs blocks : ℕ) → Stands s0 s input left old new pairs blocks → 0 < bytes_due r s → Took s left later []
        → Wrote {A = Sent} {E = E} s0 input old new (Ok (record { pairs = pairs; blocks = blocks; refused = None }))
        × IfSome input (λ xs. Tells (run_of r s0 xs) (record { pairs = pairs; blocks = blocks; refused = None }) s)
    all_sent E s0 s None left later old new pairs blocks t some k = (λ l v w e f. tt, tt)
    all_sent E s0 s (Some xs) None later old new pairs blocks t some k = absurd t
    all_sent E s0 s (Some xs) (Some rest) None old new pairs blocks t some k = absurd k.bytes
    all_sent E s0 s (Some xs) (Some rest) (Some more) old new pairs blocks (strips, b, p) some k =
        let run_is = ended s0 xs s rest (so_far strips pairs blocks s) b (k.bytes ∙ k.end (omega (arith, some))) in
        (λ l v w e f. subst (Appends (contents v) (contents w)) (sym (stopped_is strips l _ pairs blocks s None run_is)) (p l v w e f), tells _ run_is)
      where
        tells : (a : Run) → a ≡ joined (so_far strips pairs blocks s) (stopped s None) → Tells a (record { pairs = pairs; blocks = blocks; refused = None }) s
        tells a e = rw e (omega arith, omega arith, refl, refl)

    -- The next pair is refused.
    pub refused_sent : (E : Type 0) (s0 s : SenderState) (input left later : Option (List ℕ)) (old new : List W) (pairs blocks : ℕ) (piece : List ℕ) (d : Refusal) → Stands s0 s input left old new pairs blocks → Took s left later piece → 0 < length piece
        → send_refused (groups_of r.lanes s) piece 1360 ≡ Some d
        → Wrote {A = Sent} {E = E} s0 input old new (Ok (record { pairs = pairs; blocks = blocks; refused = Some (refusal_behind blocks d) }))
        × IfSome input (λ xs. Tells (run_of r s0 xs) (record { pairs = pairs; blocks = blocks; refused = Some (refusal_behind blocks d) }) s)
    refused_sent E s0 s None left later old new pairs blocks piece d t k some h = (λ l v w e f. tt, tt)
    refused_sent E s0 s (Some xs) None later old new pairs blocks piece d t k some h = absurd t
    refused_sent E s0 s (Some xs) (Some rest) None old new pairs blocks piece d t k some h = absurd k.bytes
    refused_sent E s0 s (Some xs) (Some rest) (Some more) old new pairs blocks piece d (strips, b, p) k some h =
        let run_is = refused_run s0 xs s rest piece more (so_far strips pairs blocks s) d b (piece_of s rest piece more k) some h in
        (λ l v w e f. subst (Appends (contents v) (contents w)) (sym (stopped_is strips l _ pairs blocks s (Some d) run_is)) (p l v w e f), tells _ run_is)
      where
        tells : (a : Run) → a ≡ joined (so_far strips pairs blocks s) (stopped s (Some d)) → Tells a (record { pairs = pairs; blocks = blocks; refused = Some (refusal_behind blocks d) }) s
        tells a e = rw e (omega arith, omega arith, refl, refl)

    -- A pair is sent.
    pub pair_sent : (s0 s : SenderState) (input left later : Option (List ℕ)) (old mid new : List W) (pairs blocks : ℕ) (piece : List ℕ) → length new ≡ length mid → Stands s0 s input left old mid pairs blocks → Took s left later piece → 0 < length piece
        → send_refused (groups_of r.lanes s) piece 1360 ≡ None → EachLane mid new (λ l v w. Appends (contents v) (contents w) (lane_part (part_size r) (strip_is s piece) l))
        → Stands s0 (sent_state r s piece 1360) input later old new (pairs + 1) (blocks + blocks_due r.lanes s)
    pair_sent s0 s None left later old mid new pairs blocks piece same t k some h q = tt
    pair_sent s0 s (Some xs) None later old mid new pairs blocks piece same t k some h q = absurd t
    pair_sent s0 s (Some xs) (Some rest) None old mid new pairs blocks piece same t k some h q = absurd k.bytes
    pair_sent s0 s (Some xs) (Some rest) (Some more) old mid new pairs blocks piece same (strips, b, p) k some h q = (
      strips ++ (strip_is s piece ∷ []),
      next_pair s0 xs s rest piece more (so_far strips pairs blocks s) b (piece_of s rest piece more k) some h,
      λ l v w e f. let (u, g) = get_there new mid same l w f in
          subst (Appends (contents v) (contents w)) (sym (lane_bytes_one (part_size r) strips (strip_is s piece) l)) (Appends-trans (contents v) (contents u) (contents w) _ _ (p l v u e g) (q l u w g f)),
    )

    pub pair_cut : {A E : Type 0} (s0 s : SenderState) (input left later : Option (List ℕ)) (old mid new : List W) (pairs blocks : ℕ) (piece : List ℕ) (o : Result A E) → length new ≡ length mid → IsErr o → Stands s0 s input left old mid pairs blocks → Took s left later piece → 0 < length piece
        → send_refused (groups_of r.lanes s) piece 1360 ≡ None → EachLane mid new (λ l v w. AppendsFront (contents v) (contents w) (lane_part (part_size r) (strip_is s piece) l))
        → Wrote s0 input old new o
    pair_cut s0 s None left later old mid new pairs blocks piece o same i t k some h q l v w e f = tt
    pair_cut s0 s (Some xs) None later old mid new pairs blocks piece o same i t k some h q l v w e f = absurd t
    pair_cut s0 s (Some xs) (Some rest) None old mid new pairs blocks piece o same i t k some h q l v w e f = absurd k.bytes
    pair_cut s0 s (Some xs) (Some rest) (Some more) old mid new pairs blocks piece o same i (strips, b, p) k some h q l v w e f =
        let n = next_pair s0 xs s rest piece more (so_far strips pairs blocks s) b (piece_of s rest piece more k) some h in
        let later = bytes_on (run r n.most (sent_state r s piece 1360) more).strips l in
        let part = lane_part (part_size r) (strip_is s piece) l in
        let whole : lane_of r s0 l xs ≡ bytes_on strips l ++ (part ++ later) = lanes_are _ _ l n.whole ∙ lane_bytes_add (part_size r) (strips ++ (strip_is s piece ∷ [])) _ l
        ∙ ap (λ x. x ++ later) (lane_bytes_one (part_size r) strips (strip_is s piece) l) ∙ append_assoc (bytes_on strips l) part later in
        let (u, g) = get_there new mid same l w f in
        err_prints s0 l xs (contents v) (contents w) o i (front_more (contents v) (contents u) (contents w) (bytes_on strips l) part later _ whole (p l v u e g) (q l u w g f))

    pub stands_at : (s0 s t : SenderState) (input left : Option (List ℕ)) (old new : List W) (pairs blocks due n : ℕ) → t ≡ s → n ≡ due → Stands s0 s input left old new pairs (blocks + due)
        → Stands s0 t input left old new pairs (blocks + n)
    stands_at s0 s t input left old new pairs blocks due n e f h = rw (e, f) h

    pub refused_prints : (E : Type 0) (s0 : SenderState) (input : Option (List ℕ)) (old new : List W) (pairs blocks : ℕ) (e d : Refusal) → d ≡ refusal_behind blocks e
        → Wrote {A = Sent} {E = E} s0 input old new (Ok (record { pairs = pairs; blocks = blocks; refused = Some (refusal_behind blocks e) }))
        → Wrote {A = Sent} {E = E} s0 input old new (Ok (record { pairs = pairs; blocks = blocks; refused = Some d }))
    refused_prints E s0 input old new pairs blocks e d same h = rw same h

  pub refused_tells : (s0 s t : SenderState) (input : Option (List ℕ)) (pairs blocks : ℕ) (e d : Refusal) → d ≡ refusal_behind blocks e → t ≡ s
      → IfSome input (λ xs. Tells (run_of r s0 xs) (record { pairs = pairs; blocks = blocks; refused = Some (refusal_behind blocks e) }) s)
      → IfSome input (λ xs. Tells (run_of r s0 xs) (record { pairs = pairs; blocks = blocks; refused = Some d }) t)
  refused_tells s0 s t input pairs blocks e d same stays h = rw (same, stays) h

  -- what a read into the front of a buffer took
  pub took : (s : SenderState) (old new : Option (List ℕ)) (n size : ℕ) (buf : List ℕ) → size ≡ bytes_due r s → size ≤ length buf → n ≤ size
      → Consumes old new (take n buf) × (n < size → IsAtEnd new) → Took s old new (take n buf)
  took s old new n size buf due room fits f =
      let long : length (take n buf) ≡ n = length-take-le n buf (omega arith) in
      record { bytes = f.0; size = omega (arith, due, fits, long); end = λ h. f.1 (omega (arith, due, long, h)) }

  -- what a send wrote
  pub strip_written : (s : SenderState) (piece strip : List ℕ) → length strip ≡ 1360 → send_refused (groups_of r.lanes s) piece 1360 ≡ None → sent_strip r s piece strip ≡ strip_is s piece
  strip_written s piece strip size h =
      sym (strip_sent r s piece strip (ap (send_refused (groups_of r.lanes s) piece) size ∙ h))
      ∙ ap (λ l. strip_is s piece ++ l) (drop_of_length-le strip {i = 1360} (omega (arith, size))) ∙ append-nil (strip_is s piece)

-- the groups of a pair
pub most_groups : (lanes : ℕ) (s : SenderState) → groups_of lanes s ≤ 40
most_groups lanes s = most (opens s)
  where
    most : (b : Bool) → group_count lanes b ≤ 40
    most true = omega arith
    most false = omega arith

pub some_groups : (lanes : ℕ) (s : SenderState) → lanes ≤ 16 → 0 < groups_of lanes s
some_groups lanes s l = some (opens s)
  where
    some : (b : Bool) → 0 < group_count lanes b
    some true = omega arith
    some false = omega arith

send_err : (o : Option Refusal) (e : Refusal) → send_answer o ≡ Err e → o ≡ Some e
send_err None e h = absurd cc
send_err (Some d) e h = cc

send_ok : (o : Option Refusal) (n : ℕ) → send_answer o ≡ Ok n → o ≡ None
send_ok None n h = refl
send_ok (Some d) n h = absurd cc

pub send_refused_here : (groups : ℕ) (piece strip : List ℕ) (e : Refusal) → length strip ≡ 1360 → Err e ≡ send_answer (send_refused groups piece (length strip)) → send_refused groups piece 1360 ≡ Some e
send_refused_here groups piece strip e size h = ap (send_refused groups piece) (sym size) ∙ send_err _ e (sym h)

pub send_accepted : (groups : ℕ) (piece strip : List ℕ) (n : ℕ) → length strip ≡ 1360 → Ok n ≡ send_answer (send_refused groups piece (length strip)) → send_refused groups piece 1360 ≡ None
send_accepted groups piece strip n size h = ap (send_refused groups piece) (sym size) ∙ send_ok _ n (sym h)

pub some_taken : (n : ℕ) (buf : List ℕ) → n ≤ length buf → (n ≡ 0 → ⊥) → 0 < length (take n buf)
some_taken n buf fits h = let long = length-take-le n buf fits in let some : 0 < n = grind (arith, h) in omega (arith, long, some)

-- the place of a refused kind is within the records
lowest_below : (f : ℕ → Bool) (n i : ℕ) → lowest f n ≡ Some i → i < n
unfolding lowest
lowest_below f zero i h = absurd cc
lowest_below f (suc n) i h = split (lowest f n) (f n) (λ j. lowest_below f n j) refl h
  where
    split : (o : Option ℕ) (b : Bool) → ((j : ℕ) → lowest f n ≡ Some j → j < n) → lowest f n ≡ o → or_else o (cond b (Some n) None) ≡ Some i → i < suc n
    split None true below e g = let z : n ≡ i = cc in omega (arith, z)
    split None false below e g = absurd cc
    split (Some j) b below e g = let z : j ≡ i = cc in omega (arith, z, below j e)

pub place_within : (groups : ℕ) (records : List ℕ) (e : Refusal) → send_refused groups records 1360 ≡ Some e → place_of e ≤ 4 * groups
unfolding send_refused records_refused bad_kind
place_within groups records Buffer h = omega arith
place_within groups records (Blocks Length) h = omega arith
place_within groups records (Blocks Start) h = omega arith
place_within groups records (Blocks (Kind i)) h = elim (cases_Bool (eqb (length records) (36 * groups))) [
  | inr f ↦ let k = rw f at h in absurd cc
  | inl f ↦
      let k : option_map (λ i. Blocks (Kind i)) (bad_kind records) ≡ Some (Blocks (Kind i)) = rw f at h in
      found (eqb-true _ _ f) (bad_kind records) refl k
]
  where
    found : length records ≡ 36 * groups → (o : Option ℕ) → bad_kind records ≡ o → option_map (λ i. Blocks (Kind i)) o ≡ Some (Blocks (Kind i)) → i ≤ 4 * groups
    found count None e g = absurd cc
    found count (Some j) e g = let z : j ≡ i = cc in let b : j < begun records = lowest_below _ (begun records) j e in omega (arith, z, b, count)
