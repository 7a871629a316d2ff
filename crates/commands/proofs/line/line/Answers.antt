use Rattle.std.proofs.Common.{◌≡◌, ℕ, ◌+◌, ◌-◌, ◌*◌, ◌%◌, List, [], ◌∷◌, ◌++◌, length, get_or, take, drop, sym, refl, ap, ◌∙◌, ap₂, arith, length-drop, length-set}
use Rattle.std.proofs.lemmas.List.{take_all, take-append-drop}
use Rattle.commands.specs.Lines.{digit, digits, line_of}
use Rattle.commands.proofs.Texts.{line_more, line_end}
use Rattle.commands.proofs.line.line.Goals as goal

pub loop-i-init : goal.loop-i-init
unfolding digits
loop-i-init c = (ap (λ (x : ℕ). x ∷ 32 ∷ []) c.digit.ensures, refl, refl)

pub loop-i-preserved : goal.loop-i-preserved
loop-i-preserved c =
    let inv = c.loop-i.invariant in
    let text : List ℕ = c.loop-i.text in
    let group : List ℕ = c.args.group.now in (
      line_more group text c.loop-i.i c.digit-in-loop-i.result c.digit-in-loop-i-2.result (digit (get_or group 0 0 % 16) ∷ 32 ∷ []) c.told-group inv.2 c.loop-i-test.true inv.0 c.digit-in-loop-i.ensures c.digit-in-loop-i-2.ensures,
      line_end group text c.loop-i.i c.digit-in-loop-i.result c.digit-in-loop-i-2.result [] c.told-group inv.2 c.loop-i-test.true inv.1,
      simp length-set inv.2,
    )

pub returns : goal.returns
unfolding line_of
returns c =
    let inv = c.loop-i.invariant in
    let text : List ℕ = c.loop-i.text in
    let group : List ℕ = c.args.group.now in
    let i : c.loop-i.i ≡ 32 = omega arith in
    let n : length (drop 1 group) ≡ 32 = length-drop 1 group ∙ ap (λ (k : ℕ). k - 1) c.told-group in
    let front : take 66 text ≡ (digit (get_or group 0 0 % 16) ∷ 32 ∷ []) ++ digits (drop 1 group) =
    ap (λ (k : ℕ). take (2 + 2 * k) text) (sym i) ∙ inv.0 ∙ ap (λ (k : ℕ). (digit (get_or group 0 0 % 16) ∷ 32 ∷ []) ++ digits (take k (drop 1 group))) i
    ∙ ap (λ (l : List ℕ). (digit (get_or group 0 0 % 16) ∷ 32 ∷ []) ++ digits l) (take_all 32 (drop 1 group) (omega arith)) in
    sym (take-append-drop 66 text) ∙ ap₂ (λ (u v : List ℕ). u ++ v) front inv.1
