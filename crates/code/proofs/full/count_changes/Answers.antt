-- The places that differ are counted.
use Rattle.std.proofs.Common.{ℕ, not, nat_eq, ◌∙◌, rules, tests, arith}
use Rattle.std.specs.List.{zip}
use Rattle.std.proofs.lemmas.Iterator.{YieldsList-from_slice, YieldsList-from_zip}
use Rattle.std.proofs.lemmas.Iterator.Consumers.{YieldsList-at, YieldsList-from_filter, count_from_yields_List}
use Rattle.std.proofs.lemmas.List.Sums.{length-filter}
use Rattle.code.proofs.Counting.{counted}
use Rattle.code.proofs.full.count_changes.Goals as goal

pub returns : goal.returns
returns c =
    count_from_yields_List c.filter.result c.count.result c.count.ensures.ran
    (YieldsList-from_filter _ (λ p. not (nat_eq p.0 p.1))
    (YieldsList-at c.filter.ensures.source (YieldsList-from_zip (YieldsList-from_slice c.args.v.now cc) (YieldsList-from_slice c.args.w.now cc)))
    c.filter.ensures.closure (λ x r q k. search (rules, tests)))
    ∙ length-filter {X = ℕ × ℕ} (λ p. not (nat_eq p.0 p.1)) (zip c.args.v.now c.args.w.now)
    ∙ counted c.args.v.now c.args.w.now (omega arith) (omega arith)
