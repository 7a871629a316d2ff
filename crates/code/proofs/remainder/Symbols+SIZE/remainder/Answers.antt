-- One symbol more is added; with all of them it is the remainder of the word.
use Rattle.std.proofs.Common.{◌≡◌, refl, subst, arith, ◌<◌}
use Rattle.code.specs.Division.{Joined}
use Rattle.code.proofs.WordRemainders.{back_length, back_at, joined_next, joined_register, word_remainder}
use Rattle.code.proofs.Words.{formed}
use Rattle.code.proofs.remainder.«Symbols+SIZE».remainder.Goals as goal

pub loop-j-init : goal.loop-j-init
loop-j-init c = record { size = c.divide.result.held.size; front = λ i l. absurd (omega arith); rest = λ i l. refl }

pub loop-j-preserved : goal.loop-j-preserved
loop-j-preserved c =
    let w = c.args.self.symbols.now in
    let h : c.loop-j.j < 30 = (let l = c.loop-j-test.true in let e = back_length w c.args.self.whole in omega arith) in
    rw (back_at w c.loop-j.j h) (joined_next w c.divide.result.symbols c.loop-j.symbols c.loop-j.j h c.loop-j.invariant)

pub invariant_of-result : goal.invariant_of-result
invariant_of-result c =
    let w = c.args.self.symbols.now in
    let e : c.loop-j.j ≡ 30 = (let k = back_length w c.args.self.whole in omega arith) in
    record { held = joined_register w c.divide.result.symbols c.loop-j.symbols (formed c.args.self) c.divide.ensures (subst (λ n. Joined w c.divide.result.symbols n c.loop-j.symbols) e c.loop-j.invariant) }

pub returns : goal.returns
returns c =
    let w = c.args.self.symbols.now in
    let e : c.loop-j.j ≡ 30 = (let k = back_length w c.args.self.whole in omega arith) in
    word_remainder w c.divide.result.symbols c.loop-j.symbols (formed c.args.self) c.divide.ensures (subst (λ n. Joined w c.divide.result.symbols n c.loop-j.symbols) e c.loop-j.invariant)
