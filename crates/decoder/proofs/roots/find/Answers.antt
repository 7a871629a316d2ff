-- One point more, a root or not.
use Rattle.std.proofs.Common.{◌≡◌, ℕ, ◌+◌, List, length, get_or, sym, ◌∙◌, subst₂, arith}
use Rattle.std.proofs.lemmas.List.{get_or_read, length-take-le}
use Rattle.decoder.specs.Words.{row_value}
use Rattle.decoder.specs.Errors.{Found}
use Rattle.decoder.proofs.Evaluation.{falling-value}
use Rattle.decoder.proofs.Steps.{found_yes, found_no}
use Rattle.decoder.proofs.roots.find.Goals as goal
use Rattle.decoder.proofs.roots.find.Goals.{then-is_zero, else-is_zero}

pub loop-i-preserved : goal.loop-i-preserved
loop-i-preserved g c =
    let G = g.F.Adds.group in
    let R = g.F.Field.ring in
    let v = c.args.v.now in
    let d = length v in
    let xs = c.args.points.now in
    let i = c.loop-i.i in
    let inv = c.loop-i.invariant in
    let y = c.y-item.result in
    let size = length-take-le (length xs) c.args.values.now (omega arith) in
    let e : y ≡ row_value G R d v (get_or xs i G.zero) =
    get_or_read c.put_values.new.values i y (omega arith) c.y-item.is G.zero
    ∙ c.put_values.ensures i (omega arith) ∙ falling-value G R g.met.F.Field.field v d (get_or xs i G.zero) in
    elim c.if-is_zero.branch [
      | then-is_zero w ↦
          subst₂ (λ (f : List ℕ) (n : ℕ). Found G R v d xs (i + 1) f n) (sym w.found-is) (sym w.count-is)
          (found_yes G R v d xs i c.loop-i.found c.loop-i.count inv (omega (arith, inv.small)) (sym e ∙ w.if-is_zero.ensures))
      | else-is_zero w ↦
          subst₂ (λ (f : List ℕ) (n : ℕ). Found G R v d xs (i + 1) f n) (sym w.found-is) (sym w.count-is)
          (found_no G R v d xs i c.loop-i.found c.loop-i.count inv (λ q. w.if-is_zero.ensures (e ∙ q)))
    ]
