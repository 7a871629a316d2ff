use Rattle.std.proofs.Common.{◌≡◌, ℕ, ◌<◌, Bool, List, [], ◌∷◌, map, length, get_or, drop, set, position, MatchOption, sym, ap, ◌∙◌, rules, arith}
use Rattle.bits.specs.Bits.{field}
use Rattle.blocks.specs.Blocks.{is_control}
use Rattle.blocks.specs.Groups.{words, one_if, read_back, blocks_under, flagged, control_back, high_digit}
use Rattle.blocks.specs.declared.block.Header.{Header}
use Rattle.blocks.specs.declared.block.Header.TheVariants.{Zeros, Ones}
use Rattle.blocks.proofs.Parts.{digit_at}
use Rattle.blocks.proofs.Written.{none_found, place_found}
use Rattle.blocks.proofs.Reading.{data_read, control_read, bad_read, control_put}
use Rattle.blocks.proofs.Returned.{high_digit-small}
use Rattle.blocks.proofs.group.Group.blocks.Goals as goal
use Rattle.blocks.proofs.group.Group.blocks.Goals.{in-Some-high_digit, in-None-high_digit}

pub returns-then-first : goal.returns-then-first
returns-then-first c = c.joined.ensures ∙ data_read _ ∙ ap (λ (f : Bool). read_back (one_if f ∷ words c.args.self.parts)) (sym c.if-first.true)

pub with_digit-requires : goal.with_digit-requires
with_digit-requires c =
    let p = place_found _ _ (sym c.in-Some.is ∙ c.first_control.ensures) in
    let n : length c.headers-headers.result ≡ 4 = search rules in
    let small : c.match-high_digit.digit < 16 = elim c.match-high_digit.branch [
      | in-Some-high_digit w ↦ let s = high_digit-small _ _ (sym c.high_digit.ensures ∙ w.in-Some-high_digit.is) in let e = w.digit-is in omega arith
      | in-None-high_digit w ↦ let e = w.digit-is in omega arith
    ] in
    (small, omega (arith, p.2))

pub returns-after-high_digit : goal.returns-after-high_digit
returns-after-high_digit c =
    let ps : List ℕ = c.args.self.parts in
    let fs : List ℕ = field (get_or ps 0 0) 0 4 in
    let at : ℕ = c.in-Some.at in
    let rest : List ℕ = drop 4 (words ps) in
    let n : length ps ≡ 4 = search rules in
    let p = place_found (map flagged fs) at (sym c.in-Some.is ∙ c.first_control.ensures ∙ ap (position is_control) c.headers-headers.ensures) in
    let m : length c.headers-headers.result ≡ 4 = search rules in
    let q = place_found _ at (sym c.in-Some.is ∙ c.first_control.ensures) in
    let l : at < length ps = omega (arith, q.2) in
    let put : MatchOption c.high_digit.result ((c.match-high_digit.headers ≡ set (map flagged fs) at Ones) × (c.match-high_digit.digit ≡ 0)) (λ d. (c.match-high_digit.headers ≡ map flagged fs) × (c.match-high_digit.digit ≡ d)) = elim c.match-high_digit.branch [
      | in-Some-high_digit w ↦ rw w.in-Some-high_digit.is (w.headers-is ∙ c.headers-headers.ensures, w.digit-is)
      | in-None-high_digit w ↦ rw w.in-None-high_digit.is (w.headers-is ∙ ap (λ (hs : List Header). set hs at Ones) c.headers-headers.ensures, w.digit-is)
    ] in
    c.joined-in-Some.ensures ∙ ap (blocks_under c.match-high_digit.headers) c.with_digit.ensures
    ∙ control_put fs at c.match-high_digit.digit rest c.match-high_digit.headers c.high_digit.result put
    ∙ ap (control_back fs at rest) (c.high_digit.ensures ∙ ap high_digit (digit_at at ps l))
    ∙ control_read ps (omega arith) at p.0 p.1
    ∙ ap (λ (f : Bool). read_back (one_if f ∷ words ps)) (sym c.if-first.false)

pub returns-in-None : goal.returns-in-None
returns-in-None c =
    let ps : List ℕ = c.args.self.parts in
    let n : length ps ≡ 4 = search rules in
    let f = none_found _ (sym c.in-None.is ∙ c.first_control.ensures ∙ ap (position is_control) c.headers-headers.ensures) in
    c.joined-in-None.ensures ∙ ap (blocks_under (Zeros ∷ Ones ∷ Zeros ∷ Ones ∷ [])) c.with_digit-in-None.ensures
    ∙ bad_read ps (omega arith) f
    ∙ ap (λ (f : Bool). read_back (one_if f ∷ words ps)) (sym c.if-first.false)
