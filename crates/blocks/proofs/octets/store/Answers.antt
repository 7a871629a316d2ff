use Rattle.std.proofs.Common.{ℕ, ◌+◌, List, ◌++◌, take, drop, sym, ap, ◌∙◌}
use Rattle.bits.proofs.Octets.{eight_octets, put_at}
use Rattle.blocks.proofs.octets.store.Goals as goal

pub returns : goal.returns
returns c =
    let xs : List ℕ = c.args.out.now in
    let at : ℕ = c.args.at in
    put_at xs c.copy_from_slice.new.self at 8
    ∙ ap (λ (ys : List ℕ). take at xs ++ (ys ++ drop (at + 8) xs)) (c.copy_from_slice.ensures.after ∙ c.to_le_bytes.ensures ∙ sym (eight_octets c.args.part))
