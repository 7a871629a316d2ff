use Rattle.std.proofs.Common.{◌≡◌, length, rules}
use Rattle.blocks.proofs.Written.{each_of_four, Joined, joined_words}
use Rattle.blocks.proofs.group.joined.Goals as goal

pub returns : goal.returns
returns c =
    let hs = c.args.headers in
    let ps = c.args.payloads in
    let bs = c.from_fn.result in
    let h : length hs ≡ 4 = search rules in
    let m : length ps ≡ length hs = search rules in
    let n : length bs ≡ length hs = search rules in
    joined_words hs ps bs m n (rw h (each_of_four (Joined hs ps bs) (search rules) (search rules) (search rules) (search rules)))
