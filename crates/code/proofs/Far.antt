-- Codewords lie far apart.
use Rattle.std.proofs.Common.{◌≡◌, ℕ, ◌<◌, ◌≤◌, List, length, get_or, sym, refl, ap, ◌∙◌, inl, inr, ⊎_elim, arith, ext_get_or}
use Rattle.field.proofs.Distance.{codewords_equal}
use Rattle.gf1024.specs.Field.{group, ring, element}
use Rattle.gf1024.proofs.Powers.{laws}
use Rattle.code.specs.Code.{Codeword, distance}
use Rattle.code.specs.Laws.{FarApart}
use Rattle.code.proofs.Counting.{triangle, listed}
use Rattle.code.proofs.Lifted.{equal_symbols, point, points_apart, syndromes_zero}

distinct : (v w : List ℕ) → Codeword v → Codeword w → distance v w ≤ 30 → v ≡ w
unfolding distance
distinct v w hv hw near = ext_get_or 0 v w (hv.formed.size ∙ sym hw.formed.size) each
  where
    size : length w ≡ length v
    size = hw.formed.size ∙ sym hv.formed.size

    small_v : (i : ℕ) → i < length v → get_or v i 0 < 1024
    small_v i l = hv.formed.symbols i (let s = hv.formed.size in omega arith)

    small_w : (i : ℕ) → i < length v → get_or w i 0 < 1024
    small_w i l = hw.formed.symbols i (let s = hv.formed.size in omega arith)

    each : (i : ℕ) → i < length v → get_or v i 0 ≡ get_or w i 0
    each i l =
        let qs = listed 544 (λ i. get_or v i 0) (λ i. get_or w i 0) in
        let e = qs.1 in
        let s = hv.formed.size in
        equal_symbols (get_or v i 0) (get_or w i 0) (small_v i l) (small_w i l)
        (codewords_equal group ring laws.field (length v) 30 (point (length v)) (λ i. element (get_or v i 0)) (λ i. element (get_or w i 0))
        (syndromes_zero (length v) w (λ i. element (get_or w i 0)) (point (length v)) size small_w (λ i l. refl) (λ i l. refl) hw)
        (points_apart (length v) (omega arith))
        (syndromes_zero (length v) v (λ i. element (get_or v i 0)) (point (length v)) refl small_v (λ i l. refl) (λ i l. refl) hv)
        qs.0 (omega arith) (λ i l. ⊎_elim (λ q. inl (ap element q)) (λ a. inr a) (qs.2 i (omega arith))) i l)

single : (reach : ℕ) → reach ≤ 15 → (u v w : List ℕ) → Codeword v → Codeword w → distance u v ≤ reach → distance u w ≤ reach → v ≡ w
unfolding distance
single reach small u v w hv hw a b =
    let t = triangle 544 (λ i. get_or u i 0) (λ i. get_or v i 0) (λ i. get_or w i 0) in
    distinct v w hv hw (omega arith)

pub far_apart : FarApart
far_apart = record { distinct = distinct; single = single }
