-- The groups of a pair's records, scrambled one after another.
use Rattle.std.proofs.Common.{◌≡◌, ℕ, ◌+◌, ◌*◌, ◌/◌, ◌<◌, ◌≤◌, ltb, List, ◌++◌, length, get_or, take, drop, None, Ok, Err, Result, sym, refl, ap, ◌∙◌, subst, ap₂, append-nil, add-one, arith, rules, length-append, length-drop}
use Rattle.std.specs.Result.{IsOk}
use Rattle.std.proofs.lemmas.List.{take_at, drop_at, drop-drop, length-take-le, take-append-drop, get_or-take, get_or-drop}
use Rattle.std.proofs.lemmas.Bool.{eq-eqb}
use Rattle.blocks.specs.Blocks.{blocks_in}
use Rattle.bits.specs.Lowest.{lowest}
use Rattle.blocks.specs.Calls.{kind_above_3, begun, bad_kind, four_refused, Grouped}
use Rattle.blocks.specs.Groups.{bits_of, group_bits}
use Rattle.blocks.specs.Scrambled.{scrambled_bits, scrambler_after}
use Rattle.blocks.specs.declared.block.Block.{Block}
use Rattle.blocks.specs.declared.group.Group.{Group}
use Rattle.blocks.specs.declared.refusal.Refusal.{Refusal}
use Rattle.bits.proofs.Lowest.{none_below, lowest_none}
use Rattle.blocks.proofs.Scrambles.{scrambled-append, after-append}
use Rattle.pairs.specs.Messages.{message_with, group_at, group_stream}
use Rattle.pairs.proofs.Messaged.{put_next}
use Rattle.pairs.proofs.Streams.{blocks_append}

-- the 36 bytes of a group among those of all groups
module _ (records : List ℕ) (g : ℕ) (room : 36 * g + 36 ≤ length records) where
  abbrev pub rest : List ℕ
  rest = drop (36 * g) records

  four_long : length (take 36 rest) ≡ 36
  four_long = length-take-le 36 rest (simp length-drop (omega arith))

  pub four_blocks : blocks_in 4 (take 36 rest) ≡ blocks_in 4 rest
  unfolding blocks_in
  four_blocks = sym (ap (blocks_in 4) (sym (take-append-drop 36 rest)) ∙ blocks_append 4 0 (take 36 rest) (drop 36 rest) four_long ∙ append-nil (blocks_in 4 (take 36 rest)))

  same_kind : (i : ℕ) → i < 4 → kind_above_3 (take 36 rest) i ≡ kind_above_3 records (4 * g + i)
  same_kind i h =
      let e : 36 * g + 9 * i ≡ 9 * (4 * g + i) = omega arith in
      ap (ltb 3) (get_or-take 36 rest (9 * i) 0 (omega arith) ∙ get_or-drop (36 * g) records (9 * i) 0 ∙ ap (λ (k : ℕ). get_or records k 0) e)

  pub no_bad_kind : bad_kind records ≡ None → four_refused (take 36 rest) ≡ None
  unfolding bad_kind four_refused
  no_bad_kind h =
      let n : begun (take 36 rest) ≡ 4 = ap (λ (k : ℕ). (k + 8) / 9) four_long in
      let none : lowest (kind_above_3 (take 36 rest)) (begun (take 36 rest)) ≡ None =
      ap (lowest (kind_above_3 (take 36 rest))) n ∙ lowest_none (kind_above_3 (take 36 rest)) 4 (λ i l. same_kind i l ∙ none_below (kind_above_3 records) (begun records) h (4 * g + i) (omega arith)) in
      rw (eq-eqb (length (take 36 rest)) 36 four_long, none) refl

-- the next 36 bytes, behind those of g groups
pub record Next (records four behind : List ℕ) (g : ℕ) : Type 0 where
  pub room : 36 * g + 36 ≤ length records
  pub four_is : four ≡ take 36 (drop (36 * g) records)
  pub behind_is : behind ≡ drop (36 * (g + 1)) records

pub next : {records rest four behind : List ℕ} {g : ℕ} → rest ≡ drop (36 * g) records → 36 * g ≤ length records → rest ≡ four ++ behind → length four ≡ 36 → Next records four behind g
next {records} {rest} {four} {behind} {g} known inside split size = record {
  room = omega (arith, ap length known, length-drop (36 * g) records, ap length split, length-append four behind);
  four_is = sym (ap (take 36) (sym known ∙ split) ∙ take_at four behind 36 size);
  behind_is = sym (ap (λ (k : ℕ). drop k records) (omega arith) ∙ sym (drop-drop 36 (36 * g) records) ∙ ap (drop 36) (sym known ∙ split) ∙ drop_at four behind 36 size);
}

-- what the group of 36 bytes is
pub grouped_ok : (xs : List ℕ) (r : Result Group Refusal) → Grouped xs r → four_refused xs ≡ None → IsOk r
grouped_ok xs (Ok g) h k = search rules
grouped_ok xs (Err e) h k = let z : ◌≡◌ {A = ℕ} 0 1 = cc in absurd (omega arith)

pub grouped_bits : (xs : List ℕ) (r : Result Group Refusal) (g : Group) → r ≡ Ok g → Grouped xs r → bits_of g ≡ group_bits (blocks_in 4 xs)
grouped_bits xs r g e h = let k : Grouped xs (Ok g) = subst (Grouped xs) e h in k.1

-- one group more
module _ (bs : List Block) (g : ℕ) (m memory group out : List ℕ) (known : memory ≡ scrambler_after m (group_stream bs g)) (is_group : group ≡ group_bits (group_at bs g)) where
  pub memory_more : (new : List ℕ) → new ≡ scrambler_after memory group → new ≡ scrambler_after m (group_stream bs (g + 1))
  unfolding group_stream
  memory_more new e =
      e ∙ ap₂ scrambler_after known is_group ∙ sym (after-append m (group_stream bs g) (group_bits (group_at bs g)))
      ∙ ap (λ (n : ℕ). scrambler_after m (group_stream bs n)) (sym (add-one g))

  pub group_more : (entry bits new : List ℕ) → out ≡ scrambled_bits memory group → bits ≡ message_with entry (scrambled_bits m (group_stream bs g)) → new ≡ message_with bits out →
      new ≡ message_with entry (scrambled_bits m (group_stream bs (g + 1)))
  unfolding group_stream
  group_more entry bits new e inv f =
      let s : List ℕ = scrambled_bits m (group_stream bs g) in
      put_next entry s out inv f
      (ap (λ (o : List ℕ). s ++ o) (e ∙ ap₂ scrambled_bits known is_group) ∙ sym (scrambled-append m (group_stream bs g) (group_bits (group_at bs g)))
      ∙ ap (λ (j : ℕ). scrambled_bits m (group_stream bs j)) (sym (add-one g)))
