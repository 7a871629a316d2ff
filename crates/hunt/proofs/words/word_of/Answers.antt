use Rattle.std.proofs.Common.{◌≡◌, ℕ, ◌+◌, ◌-◌, ◌*◌, ◌<◌, ◌≤◌, ◌^◌, List, map, drop, length, sym, ap, ◌∙◌, ap₂, arith, rules, add-one, pow-suc}
use Rattle.std.proofs.lemmas.List.{drop_all, length-map}
use Rattle.bits.specs.Bits.{bit, number, nth}
use Rattle.hunt.proofs.Positions.{word_more}
use Rattle.hunt.proofs.words.word_of.Goals as goal

pub loop-i-init : goal.loop-i-init
unfolding number
loop-i-init c =
    let bits : List ℕ = map (λ b. bit b c.args.t) c.args.bytes in
    let long : length bits ≤ 16 = rw length-map (search rules) in
    (ap number (sym (drop_all 16 bits long)), omega arith)

pub loop-i-preserved : goal.loop-i-preserved
loop-i-preserved c =
    let i : ℕ = c.loop-i.i in
    let bits : List ℕ = map (λ b. bit b c.args.t) c.args.bytes in
    let one : c.from.result ≡ bit (nth c.args.bytes (15 - i)) c.args.t = c.from.ensures in
    let small : c.from.result < 2 = rw one (omega arith) in
    let more = word_more c.args.bytes c.args.t (15 - i) (search rules) in
    let here : 16 - (i + 1) ≡ 15 - i = omega arith in
    let above : 15 - i + 1 ≡ 16 - i = omega arith in
    let inv = c.loop-i.invariant.1 in
    let p : 2 ^ (i + 1) ≡ 2 ^ i * 2 = rw (add-one, pow-suc) (omega arith) in (
      ap₂ (λ (w b : ℕ). 2 * w + b) (c.loop-i.invariant.0 ∙ ap (λ (k : ℕ). number (drop k bits)) (sym above)) one ∙ omega arith ∙ sym more ∙ ap (λ (k : ℕ). number (drop k bits)) (sym here),
      rw p (omega arith),
    )
