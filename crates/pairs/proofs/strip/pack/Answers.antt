use Rattle.std.proofs.Common.{◌≡◌, ℕ, length, ap, ◌∙◌, fold, reverse, rules}
use Rattle.bits.specs.Bits.{field}
use Rattle.pairs.proofs.Packs.{below, packs}
use Rattle.pairs.proofs.strip.pack.Goals as goal

pub returns : goal.returns
returns c =
    let e : c.fold.result ≡ fold below 0 (reverse c.args.symbols) = search rules in
    let n : length c.args.symbols ≡ 4 = search rules in
    ap (λ (x : ℕ). field x 0 40) e ∙ packs c.args.symbols n c.requires
