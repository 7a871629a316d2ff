use Rattle.std.proofs.Common.{◌≡◌, ℕ, length, map, take, get_or, sym, refl, ap, ◌∙◌, ap₂, arith, rules, pos, ◌-ℤ◌, take_all}
use borrow.Author.Differences.{ints}
use Rattle.std.specs.Int.{int_max, int_min}
use Rattle.std.proofs.Math.IntN.{ℤ}
use Rattle.std.proofs.lemmas.Int.{to_z-of_z, clamps}
use Rattle.lanes.specs.declared.lock.Lock.TheVariants.{Searching}
use Rattle.receiver.specs.Skews.{skew, too_wide, largest, smallest}
use Rattle.receiver.proofs.Skews.{more_mapped}
use Rattle.receiver.proofs.skew.too_wide.Goals as goal

pub loop-lock-preserved : goal.loop-lock-preserved
loop-lock-preserved c =
    let xs = c.args.positions.now in
    let i = c.loop-lock.lock-index in
    let s = c.skew-skew.ensures.value in
    let m = more_mapped int_max (pos 0) (skew c.args.period) xs i Searching c.loop-lock-test.true in
    let n = more_mapped int_min (pos 0) (skew c.args.period) xs i Searching c.loop-lock-test.true in
    record {
      greatest = grind (arith, to_z-of_z);
      least = grind (arith, to_z-of_z);
      high = omega (arith, ints, clamps);
      above = omega (arith, ints, clamps);
      low = omega (arith, ints, clamps);
      below = omega (arith, ints, clamps);
    }

pub returns : goal.returns
unfolding too_wide
returns c =
    let xs = c.args.positions.now in
    let all : take c.loop-lock.lock-index xs ≡ xs = take_all c.loop-lock.lock-index xs (omega arith) in
    let h = c.loop-lock.invariant.greatest ∙ ap (λ (ys : _). largest (map (skew c.args.period) ys)) all in
    let l = c.loop-lock.invariant.least ∙ ap (λ (ys : _). smallest (map (skew c.args.period) ys)) all in
    rw (← h, ← l) (grind (arith, ints, to_z-of_z))
