use Rattle.std.proofs.Common.{◌≡◌, ◌<◌, length, rules, arith}
use Rattle.blocks.proofs.Parts.{put_back_at}
use Rattle.blocks.proofs.group.with_digit.Goals as goal

pub returns : goal.returns
returns c =
    let ps = c.args.parts in
    let rs = c.from_fn.result in
    let at = c.args.at in
    let d = c.args.digit in
    let h : length ps ≡ 4 = search rules in
    let n : length rs ≡ length ps = search rules in
    let l : at < length ps = search rules in
    put_back_at d at ps rs n l (λ k i. let t = c.from_fn.ensures.items.at k 0 (omega (arith, h)) in search (rules, t))
