use Rattle.std.proofs.Common.{◌≡◌, true, eqb, List, length, ap, ◌∙◌, sym, rules}
use Rattle.std.proofs.lemmas.Bool.{eq-eqb}
use Rattle.std.specs.List.{flat_map}
use Rattle.blocks.specs.Blocks.{record_of, records_of}
use Rattle.blocks.specs.Calls.{read_refused, read_records}
use Rattle.blocks.specs.Groups.{read_back, group_bits_in}
use Rattle.blocks.specs.declared.block.Block.{Block}
use Rattle.bits.proofs.Arrays.{mapped}
use Rattle.blocks.proofs.Arrays.{records_one_by_one}
use Rattle.blocks.proofs.calls.read_group.Goals as goal

pub returns-clause-records : goal.returns-clause-records
unfolding read_refused read_records
returns-clause-records c =
    let bs : List Block = c.blocks-blocks.result in
    let four : length bs ≡ 4 = search rules in
    let e : eqb (length c.args.group.now) 33 ≡ true = eq-eqb _ _ (search rules) in
    let f : eqb (length c.args.records.now) 36 ≡ true = eq-eqb _ _ (search rules) in
    let g : c.in_ok-group.group.now ≡ c.args.group.now = search rules in
    let m = mapped record_of bs c.map.result 4 c.map.ensures.items four (λ p q x y k. search rules) in
    rw (e, f) (c.copy_from_slice.ensures.after ∙ c.as_flattened.ensures.value ∙ ap (flat_map (λ (l : List _). l)) m ∙ sym (records_one_by_one bs)
    ∙ ap records_of (c.blocks-blocks.ensures ∙ ap read_back (c.from.ensures ∙ ap group_bits_in g)))
