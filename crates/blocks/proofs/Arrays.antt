-- Words and records as octets, one after another.
use Rattle.std.proofs.Common.{◌≡◌, ℕ, suc, ◌+◌, ◌*◌, ◌<◌, List, [], ◌∷◌, ◌++◌, map, length, get_or, take, drop, sym, refl, ap, ◌∙◌, ap₂, arith, length-drop}
use Rattle.std.proofs.lemmas.List.{nil_from_length, drop-drop}
use Rattle.std.specs.List.{flat_map}
use Rattle.bits.specs.Bits.{field, octets, octet_bits}
use Rattle.blocks.specs.Blocks.{record_of, records_of}
use Rattle.blocks.specs.Groups.{words}
use Rattle.blocks.specs.declared.block.Block.{Block}
use Rattle.bits.proofs.Fields.{length-field}
use Rattle.bits.proofs.Octets.{octets-append, octet_bits_next, octet_bits-none}

-- the octets of words, eight for each
pub octets-words : (xs : List ℕ) → octets (8 * length xs) (words xs) ≡ flat_map (λ l. l) (map (λ x. octets 8 (field x 0 64)) xs)
unfolding octets
octets-words [] = refl
octets-words (x ∷ xs) =
    let e : 8 * suc (length xs) ≡ 8 + 8 * length xs = omega arith in
    ap (λ (n : ℕ). octets n (words (x ∷ xs))) e ∙ octets-append 8 (8 * length xs) (field x 0 64) (words xs) (length-field x 0 64)
    ∙ ap (λ (l : List ℕ). octets 8 (field x 0 64) ++ l) (octets-words xs)

-- and words out of them
pub words_of_octets : (ps xs : List ℕ) → length xs ≡ 8 * length ps → ((i : ℕ) → i < length ps → field (get_or ps i 0) 0 64 ≡ octet_bits (take 8 (drop (8 * i) xs))) → words ps ≡ octet_bits xs
words_of_octets [] xs n h = sym (ap octet_bits (nil_from_length xs n) ∙ octet_bits-none)
words_of_octets (p ∷ ps) xs n h =
    let m : length (drop 8 xs) ≡ 8 * length ps = length-drop 8 xs ∙ omega arith in
    ap₂ (λ (u v : List ℕ). u ++ v) (h 0 (omega arith)) (words_of_octets ps (drop 8 xs) m (λ i l.
    let e : 8 * suc i ≡ 8 + 8 * i = omega arith in
    h (suc i) (omega arith) ∙ ap (λ (ys : List ℕ). octet_bits (take 8 ys)) (ap (λ (j : ℕ). drop j xs) e ∙ sym (drop-drop (8 * i) 8 xs))))
    ∙ sym (octet_bits_next xs 0)

pub records_one_by_one : (bs : List Block) → records_of bs ≡ flat_map (λ l. l) (map record_of bs)
unfolding records_of
records_one_by_one [] = refl
records_one_by_one (b ∷ bs) = ap (λ (l : List ℕ). record_of b ++ l) (records_one_by_one bs)
