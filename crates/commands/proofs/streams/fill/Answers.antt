use Rattle.std.proofs.Common.{◌≡◌, ℕ, ◌+◌, ◌-◌, ◌≤◌, List, ◌++◌, rules, arith, length, take, slice_range, sym, ap, ◌∙◌, subst, le_refl, drop_at, length-take-le}
use Rattle.std.proofs.lemmas.Slice.{take-put_mid_below}
use Rattle.std.specs.Io.KnownBytes.{Consumes}
use Rattle.std.proofs.KnownBytes.{Consumes-trans, Consumes-kept}
use borrow.Rule.Slice.PartMut.{put_mid, post_of}
use lib.Seq.{take-add, take-append-le}
use Rattle.commands.proofs.streams.fill.Goals as goal
use Rattle.commands.proofs.streams.fill.Goals.{in-Ok, in-Err+else-not-is_interrupted}

take_split : (a b : ℕ) (old new : List ℕ) → a ≤ b → take a new ≡ take a old → take a old ++ slice_range new a b ≡ take b new
take_split a b old new h front =
    let same : a + (b - a) ≡ b = omega arith in
    ap (λ l. l ++ slice_range new a b) (sym front) ∙ sym (take-add a (b - a) new) ∙ ap (λ n. take n new) same

slice_range-put_mid : (a k n : ℕ) (xs ys : List ℕ) → a ≤ length xs → n ≤ length ys → slice_range (put_mid a k xs ys) a (a + n) ≡ take n ys
slice_range-put_mid a k n xs ys within fits =
    let same : (a + n) - a ≡ n = omega arith in
    let after = post_of a k xs in
    ap (take ((a + n) - a)) (drop_at (take a xs) (ys ++ after) a (length-take-le a xs within)) ∙ ap (λ m. take m (ys ++ after)) same ∙ take-append-le n ys after fits

pub loop-preserved : goal.loop-preserved
loop-preserved g c = elim c.match-read.branch [
  | in-Ok w ↦
      let from = c.loop.at in
      let n = w.in-Ok.n in
      let room = length c.loop.buf - from in
      let within = c.loop.invariant.1 in
      let new = put_mid from room c.loop.buf c.read.new.buf in
      let part = slice_range-put_mid from room n c.loop.buf c.read.new.buf within w.in-Ok.ensures.bound.0 in
      let joined = take_split from (from + n) c.loop.buf new (omega arith) (take-put_mid_below _ _ _ _ _ (le_refl _) within) in
      (search rules, search (rules, w.at-is), subst (Consumes _ _) (ap (λ l. take from c.loop.buf ++ l) (sym part) ∙ joined ∙ ap (λ m. take m new) (sym w.at-is)) (Consumes-trans _ _ _ _ _ c.loop.invariant.2 w.in-Ok.ensures.bytes.0))
  | in-Err+else-not-is_interrupted w ↦
      let kept = Consumes-kept _ _ _ _ c.loop.invariant.2 w.in-Err.ensures.bytes in
      let new = put_mid c.loop.at (length c.loop.buf - c.loop.at) c.loop.buf c.read.new.buf in
      (search rules, search (rules, w.at-is), subst (Consumes _ _) (sym (take-put_mid_below _ _ _ _ _ (le_refl _) c.loop.invariant.1) ∙ ap (λ m. take m new) (sym w.at-is)) kept)
]
