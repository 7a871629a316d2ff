use Rattle.std.proofs.Common.{◌≡◌, length, reverse, ◌∙◌, rules}
use Rattle.std.specs.List.{fold}
use Rattle.blocks.proofs.Written.{pushed, shifted_in}
use Rattle.blocks.proofs.group.flags.Goals as goal

pub returns : goal.returns
returns c =
    let n : length c.args.headers ≡ 4 = search rules in
    let e : c.fold.result ≡ fold pushed 0 (reverse c.args.headers) = search rules in
    e ∙ shifted_in c.args.headers n
