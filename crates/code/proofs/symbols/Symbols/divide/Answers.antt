-- One symbol more; and the first 514 are those of the front.
use Rattle.std.proofs.Common.{refl, arith, take, length, ◌≡◌, subst, ◌<◌, get_or}
use Rattle.std.proofs.lemmas.List.{length-take-le, get_or-take}
use lib.ListN.{get_or-replicate}
use Rattle.code.specs.Division.{Remainder}
use Rattle.code.proofs.Division.{remainder_none, remainder_next, remainder_front}
use Rattle.code.proofs.symbols.Symbols.divide.Goals as goal

pub invariant_of-register : goal.invariant_of-register
invariant_of-register g c = record { held = (remainder_none c.args.self.symbols.now _ refl (λ i l. get_or-replicate 33 i 0 0 l)).register }

pub loop-s-init : goal.loop-s-init
loop-s-init g c = remainder_none (take 514 c.args.self.symbols.now) _ refl (λ i l. get_or-replicate 33 i 0 0 l)

pub shift-requires : goal.shift-requires
shift-requires g c =
    let w = c.args.self.symbols.now in
    let long : length (take 514 w) ≡ 514 = length-take-le 514 w (let e = c.args.self.whole in omega arith) in
    rw (get_or-take 514 w c.loop-s.s-index 0 (omega arith)) (c.args.self.small c.loop-s.s-index (omega arith))

pub loop-s-preserved : goal.loop-s-preserved
loop-s-preserved g c =
    let w = c.args.self.symbols.now in
    let long : length (take 514 w) ≡ 514 = length-take-le 514 w (let e = c.args.self.whole in omega arith) in
    let small : get_or (take 514 w) c.loop-s.s-index 0 < 1024 = rw (get_or-take 514 w c.loop-s.s-index 0 (omega arith)) (c.args.self.small c.loop-s.s-index (omega arith)) in
    remainder_next (take 514 w) c.loop-s.s-index c.loop-s.register.symbols c.shift.new.self.symbols small c.shift.new.self.held.size c.loop-s.invariant c.shift.ensures

pub returns : goal.returns
returns g c =
    let w = c.args.self.symbols.now in
    let long : length (take 514 w) ≡ 514 = length-take-le 514 w (let e = c.args.self.whole in omega arith) in
    remainder_front w c.loop-s.register.symbols (subst (λ n. Remainder (take 514 w) n c.loop-s.register.symbols) (let e : c.loop-s.s-index ≡ 514 = omega arith in e) c.loop-s.invariant)
