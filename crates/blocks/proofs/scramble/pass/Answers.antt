use Rattle.std.proofs.Common.{◌≡◌, ℕ, List, ◌∷◌, take, length, get_or, sym, ap, ◌∙◌, subst, arith, rules}
use Rattle.std.proofs.lemmas.List.{take_all}
use Rattle.std.proofs.Math.ListN.{length-set}
use Rattle.std.proofs.lemmas.Grind.{common_steps}
use Rattle.bits.specs.Bits.{field}
use Rattle.blocks.specs.Groups.{one_if, words}
use Rattle.blocks.specs.Scrambled.{memory_in, stream_bits, stream_after}
use Rattle.blocks.proofs.Passing.{one_word}
use Rattle.blocks.proofs.Scrambles.{in_parts}
use Rattle.blocks.proofs.scramble.pass.Goals as goal

pub loop-x-init : goal.loop-x-init
loop-x-init g c = record {
  passed = record { gives = c.bit-first.ensures.gives; leaves = c.bit-first.ensures.leaves };
  size = search rules;
  rest = λ k h. search rules;
}

pub loop-x-preserved : goal.loop-x-preserved
loop-x-preserved g c =
    let S = stream_bits g.D.Direction.kept in
    let T = stream_after g.D.Direction.kept in
    let xs : List ℕ = c.args.group.parts in
    let ys : List ℕ = c.loop-x.x-items in
    let n = c.loop-x.x-index in
    let inv = c.loop-x.invariant in
    let m : length xs ≡ 4 = search rules in
    let same : get_or ys n 0 ≡ get_or xs n 0 = inv.rest n (omega arith) in
    record {
      passed = one_word S T (in_parts g.D.Direction.kept) (memory_in c.args.memory.now) _ _ xs ys _ _ n c.word.result (omega arith) (omega (arith, inv.size)) inv.passed
          (subst (λ (x : ℕ). field c.word.result 0 64 ≡ S (memory_in c.loop-x.memory) (field x 0 64)) same c.word.ensures.gives)
          (subst (λ (x : ℕ). memory_in c.word.new.memory ≡ T (memory_in c.loop-x.memory) (field x 0 64)) same c.word.ensures.leaves);
      size = omega (arith, length-set {A = ℕ}, inv.size);
      rest = λ k h. grind (arith, common_steps, inv.rest k);
    }

pub returns : goal.returns
returns g c =
    let S = stream_bits g.D.Direction.kept in
    let T = stream_after g.D.Direction.kept in
    let xs : List ℕ = c.args.group.parts in
    let ys : List ℕ = c.loop-x.x-items in
    let p = c.loop-x.invariant.passed in
    let n = c.loop-x.x-index in
    let k : length xs ≡ 4 = search rules in
    let whole : take n xs ≡ xs = take_all n xs (omega arith) in
    let done : take n ys ≡ ys = take_all n ys (omega arith) in
    let m = memory_in c.args.memory.now in
    let f = one_if c.args.group.first in
    let g' = one_if c.bit-first.result in
    record {
      gives = ap (λ (l : List ℕ). g' ∷ words l) (sym done) ∙ p.gives ∙ ap (λ (l : List ℕ). S m (f ∷ words l)) whole;
      leaves = p.leaves ∙ ap (λ (l : List ℕ). T m (f ∷ words l)) whole;
    }
