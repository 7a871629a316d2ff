use Rattle.std.proofs.Common.{◌≡◌, ℕ, ◌*◌, ◌/◌, ◌<◌, ◌≤◌, List, [], ◌∷◌, get_or, length, drop, take, ap, ◌∙◌, ap₂, rules, arith}
use Rattle.std.proofs.lemmas.List.{take_all, length-take-le, length-drop}
use Rattle.std.specs.Int.{from_le_bytes}
use Rattle.std.specs.Simd.{first_chunks}
use Rattle.bits.specs.Bits.{field}
use mir.Syntax.{w64}
use Rattle.blocks.proofs.Buffers.{lowest-bit}
use Rattle.bits.proofs.Octets.{le_octets}
use Rattle.blocks.proofs.Arrays.{words_of_octets}
use Rattle.bits.proofs.Arrays.{chunk_at, small_part}
use Rattle.blocks.proofs.octets.GroupFromRefArrayU833.from.Goals as goal

pub returns : goal.returns
returns c =
    let xs : List ℕ = c.args.octets.now in
    let n : length xs ≡ 33 = search rules in
    let m : length c.from_fn.result ≡ 4 = c.from_fn.ensures.items.long in
    let each : (i : ℕ) → i < 4 → get_or c.from_fn.result i 0 ≡ from_le_bytes w64 (get_or c.as_chunks.result.0.now i []) =
    λ i l. let t = c.from_fn.ensures.items.at i 0 l in search (rules, t) in
    ap₂ (λ (b : ℕ) (l : List ℕ). b ∷ l) (lowest-bit (get_or xs 0 0)) (words_of_octets c.from_fn.result (drop 1 xs) (search (rules, m, n))
    (λ i l.
    let j : i < 4 = search (rules, m) in
    let f : c.as_chunks.result.0.now ≡ first_chunks 8 (length (take 32 (drop 1 xs)) / 8) (take 32 (drop 1 xs)) = c.as_chunks.ensures.front in
    let w : take 32 (drop 1 xs) ≡ drop 1 xs = take_all 32 (drop 1 xs) (search (rules, n)) in
    let d : length (drop 1 xs) / 8 ≡ 4 = search (rules, n) in
    let k : c.as_chunks.result.0.now ≡ first_chunks 8 4 (drop 1 xs) = rw (w, d) at f in
    let part : get_or c.as_chunks.result.0.now i [] ≡ take 8 (drop (8 * i) (drop 1 xs)) = ap (λ (cs : List (List ℕ)). get_or cs i []) k ∙ chunk_at 8 4 (drop 1 xs) i j in
    let small : (a : ℕ) → get_or xs a 0 < 256 = search rules in
    let long : 8 ≤ length (drop (8 * i) (drop 1 xs)) = rw (length-drop, length-drop) (omega arith) in
    ap (λ (x : ℕ). field x 0 64) (each i j ∙ ap (from_le_bytes w64) part) ∙ le_octets _ (length-take-le 8 _ long) (small_part xs small 8 (8 * i) 1)))
