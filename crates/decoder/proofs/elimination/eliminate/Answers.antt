-- One row more is reduced; with all of them a stage is done.
use Rattle.std.proofs.Common.{◌≡◌, ◌+◌, ◌-◌, ◌<◌, length, get_or, sym, ap, ◌∙◌, subst, subst₂, arith, get_or-set_other, rules}
use Rattle.std.proofs.lemmas.List.{get_or_read}
use Rattle.decoder.specs.declared.elimination.Row.{Row}
use Rattle.decoder.specs.Words.{applied}
use Rattle.decoder.specs.Elimination.{blank, row_at, Candidate}
use Rattle.decoder.proofs.Stages.{set_cases, next_stage, idle_stage}
use Rattle.decoder.proofs.elimination.eliminate.Goals as goal

pub reduce-requires : goal.reduce-requires
reduce-requires g c =
    let G = g.F.Adds.group in
    let R = g.F.Field.ring in
    let old = c.args.rows.now in
    let window = c.args.window.now in
    let s = window.s.now in
    let k = window.k in
    let n = window.n in
    let p = c.in-Some.p in
    let i = c.loop-i.i in
    let first = c.in-Some.ensures in
    let x = get_or c.loop-i.rows i c.index-rows-i.result in
    let eP : c.index-rows-p.result ≡ row_at old p = get_or_read old p c.index-rows-p.result (omega arith) c.index-rows-p.is blank in
    let eI : x ≡ row_at old i = sym c.index-rows-i.is ∙ get_or_read c.loop-i.rows i c.index-rows-i.result (omega arith) c.index-rows-i.is blank ∙ c.loop-i.invariant.3 i (omega arith) in
    let row = subst (Candidate G R s n k) (sym eI) (c.requires.candidate i (omega arith)) in
    let pivot = subst (Candidate G R s n k) (sym eP) (c.requires.candidate p (omega arith)) in
    let lower = subst₂ (λ (a b : Row g.row.F.Denot). a.degree < b.degree) (sym eP) (sym eI) (c.requires.ascend p i (omega arith) (omega arith)) in (
      search rules,
      (
        row,
        (
          pivot,
          (
            lower,
            (
              λ e. first.1 (ap (λ (z : Row g.row.F.Denot). applied G R z.coefficients s k n) (sym eP) ∙ e),
              c.inv-over.ensures ∙ ap R.over c.apply.ensures,
            ),
          ),
        ),
      ),
    )

pub loop-i-preserved : goal.loop-i-preserved
loop-i-preserved g c =
    let G = g.F.Adds.group in
    let R = g.F.Field.ring in
    let old = c.args.rows.now in
    let window = c.args.window.now in
    let rows = c.loop-i.rows in
    let i = c.loop-i.i in
    let y = c.reduce.result in
    let inv = c.loop-i.invariant in
    let eI : get_or rows i c.index-rows-i.result ≡ row_at old i = sym c.index-rows-i.is ∙ get_or_read rows i c.index-rows-i.result (omega arith) c.index-rows-i.is blank ∙ inv.3 i (omega arith) in
    let same-degree : y.degree ≡ (row_at old i).degree = c.reduce.ensures.degree ∙ ap (λ (z : Row g.row.F.Denot). z.degree) eI in
    let within : i - 1 < length rows = omega arith in (
      λ t h. get_or-set_other rows (i - 1) t y blank (λ e. (omega arith)) ∙ inv.0 t h,
      λ t h l. set_cases (Candidate G R window.s.now window.n (window.k + 1)) rows (i - 1) y t within (λ e. c.reduce.ensures.candidate) (λ e. inv.1 t h (omega arith)),
      λ t h l. set_cases (λ (z : Row g.row.F.Denot). z.degree ≡ (row_at old (t + 1)).degree) rows (i - 1) y t within
          (λ e. same-degree ∙ ap (λ j. (row_at old j).degree) (let q : i ≡ t + 1 = omega arith in q))
          (λ e. inv.2 t h (omega arith)),
      λ t h. get_or-set_other rows (i - 1) t y blank (λ e. (omega arith)) ∙ inv.3 t (omega arith),
    )

pub returns-after-loop-i : goal.returns-after-loop-i
returns-after-loop-i g c =
    let inv = c.loop-i.invariant in
    let old = c.args.rows.now in
    let window = c.args.window.now in
    let first = c.in-Some.ensures in
    next_stage g.F.Adds.group g.F.Field.ring old c.loop-i.rows (length old) c.in-Some.p window.k window.n window.s.now
    first.0 c.requires first.2 inv.0 (λ t h l. inv.1 t h (omega arith)) (λ t h l. inv.2 t h (omega arith))

pub returns-in_default : goal.returns-in_default
returns-in_default g c =
    let old = c.args.rows.now in
    let window = c.args.window.now in
    idle_stage g.F.Adds.group g.F.Field.ring old (length old) window.k window.n window.s.now c.requires c.in_default.ensures
