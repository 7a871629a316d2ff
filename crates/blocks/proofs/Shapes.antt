-- A group has 257 bits, each of them 0 or 1.
use Rattle.std.proofs.Common.{◌≡◌, ℕ, suc, ◌+◌, ◌-◌, ◌*◌, ◌<◌, ◌≤◌, List, [], ◌∷◌, map, length, take, drop, refl, ap, ◌∙◌, ap₂, inl, inr, arith, length-append, length-drop}
use Rattle.std.proofs.lemmas.List.{length-take-le}
use Rattle.std.proofs.lemmas.Bool.{cases_Bool}
use Rattle.bits.specs.Bits.{field, Binary}
use Rattle.bits.proofs.Binary.{binary_none, binary_cons, binary_append, binary_drop, binary_take, binary_field}
use Rattle.blocks.specs.Blocks.{second_bit, payload_bits}
use Rattle.blocks.specs.Groups.{headers, payloads, all_good, some_control, first_control_place, without, group_bits}
use Rattle.blocks.specs.declared.block.Header.{Header}
use Rattle.blocks.specs.declared.block.Block.{Block}
use Rattle.bits.proofs.Fields.{length-field}
use Rattle.blocks.proofs.Returned.{length-headers}
use Rattle.blocks.proofs.Written.{first_inside, second_small}

binary_flags : (hs : List Header) → Binary (map second_bit hs)
binary_flags [] = binary_none
binary_flags (h ∷ hs) = binary_cons (second_bit h) (map second_bit hs) (second_small h) (binary_flags hs)

binary_payloads : (bs : List Block) → Binary (payloads bs)
binary_payloads [] = binary_none
binary_payloads (b ∷ bs) = binary_append (payload_bits b) (payloads bs) (binary_field b.payload 0 64) (binary_payloads bs)

binary_without : (p : ℕ) (s : List ℕ) → Binary s → Binary (without p s)
binary_without p s b = binary_append (take p s) (drop (p + 4) s) (binary_take p s b) (binary_drop (p + 4) s b)

pub binary_group : (bs : List Block) → Binary (group_bits bs)
unfolding group_bits field
binary_group bs =
    let s = payloads bs in
    let b = binary_payloads bs in
    elim (cases_Bool (all_good (headers bs))) [
      | inl g ↦ elim (cases_Bool (some_control (headers bs))) [
        | inl k ↦ rw (g, k) (binary_cons 0 _ (omega arith) (binary_append (map second_bit (headers bs)) _ (binary_flags (headers bs)) (binary_without (64 * first_control_place (headers bs) + 4) s b)))
        | inr k ↦ rw (g, k) (binary_cons 1 s (omega arith) b)
      ]
      | inr g ↦ rw g (binary_append (0 ∷ 1 ∷ 1 ∷ 1 ∷ 1 ∷ []) (without 4 s) (binary_field 30 0 5) (binary_without 4 s b))
    ]

length_flags : (hs : List Header) → length (map second_bit hs) ≡ length hs
length_flags [] = refl
length_flags (h ∷ hs) = ap suc (length_flags hs)

length-payloads : (bs : List Block) → length (payloads bs) ≡ 64 * length bs
length-payloads [] = refl
length-payloads (b ∷ bs) = length-append (payload_bits b) (payloads bs) ∙ ap₂ (λ (m n : ℕ). m + n) (length-field b.payload 0 64) (length-payloads bs) ∙ omega arith

length_without : (p : ℕ) (s : List ℕ) → p + 4 ≤ length s → length (without p s) ≡ length s - 4
length_without p s h =
    length-append (take p s) (drop (p + 4) s) ∙ ap₂ (λ (m n : ℕ). m + n) (length-take-le p s (omega arith)) (length-drop (p + 4) s) ∙ omega arith

pub length-group : (bs : List Block) → length bs ≡ 4 → length (group_bits bs) ≡ 257
unfolding group_bits
length-group bs n =
    let s = payloads bs in
    let hs = headers bs in
    let l : length s ≡ 256 = length-payloads bs ∙ ap (λ (k : ℕ). 64 * k) n in
    let m : length hs ≡ 4 = length-headers bs ∙ n in
    elim (cases_Bool (all_good hs)) [
      | inl g ↦ elim (cases_Bool (some_control hs)) [
        | inl k ↦
            let i : first_control_place hs < length hs = first_inside hs k in
            let w : length (without (64 * first_control_place hs + 4) s) ≡ length s - 4 = length_without (64 * first_control_place hs + 4) s (omega arith) in
            let t = length-append (map second_bit hs) (without (64 * first_control_place hs + 4) s) in
            let f = length_flags hs in
            rw (g, k) (omega arith)
        | inr k ↦ rw (g, k) (omega arith)
      ]
      | inr g ↦ let w : length (without 4 s) ≡ length s - 4 = length_without 4 s (omega arith) in rw g (omega arith)
    ]
