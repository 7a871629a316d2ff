-- The first record of a kind above 3, or none of those that begin.
use Rattle.std.proofs.Common.{◌≡◌, ℕ, List, sym, refl, ap, ◌∙◌, arith}
use Rattle.bits.specs.Lowest.{lowest}
use Rattle.bits.proofs.Lowest.{lowest_past, lowest-found}
use Rattle.blocks.specs.Calls.{bad_kind, begun, kind_above_3}
use Rattle.blocks.proofs.octets.first_bad_kind.Goals as goal

pub loop-i-init : goal.loop-i-init
unfolding lowest
loop-i-init c = refl

pub returns-then-is_unknown : goal.returns-then-is_unknown
unfolding bad_kind
returns-then-is_unknown c =
    let xs : List ℕ = c.args.records.now in
    sym (lowest-found (kind_above_3 xs) c.loop-i.i (begun xs) (omega arith) c.loop-i.invariant (sym c.if-is_unknown.ensures))

pub loop-i-preserved : goal.loop-i-preserved
loop-i-preserved c =
    let xs : List ℕ = c.args.records.now in
    lowest_past (kind_above_3 xs) c.loop-i.i c.loop-i.invariant (sym c.if-is_unknown.ensures)

pub returns : goal.returns
unfolding bad_kind
returns c =
    let xs : List ℕ = c.args.records.now in
    let e : c.loop-i.i ≡ begun xs = omega arith in
    sym (ap (lowest (kind_above_3 xs)) (sym e) ∙ c.loop-i.invariant)
