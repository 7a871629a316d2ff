-- Symbols in octets.
use Rattle.std.proofs.Common.{◌≡◌, ℕ, suc, ◌+◌, ◌*◌, ◌/◌, ◌%◌, ◌^◌, ◌<◌, true, eqb, List, [], ◌∷◌, map, length, drop, get_or, sym, ap, ◌∙◌, ap₂, add-zero, inl, inr, refl, arith}
use Rattle.std.proofs.lemmas.List.{ext_get_or, get_or-take, get_or-drop, get_or-map, length-map}
use Rattle.std.specs.Int.{to_le_bytes}
use Rattle.std.specs.List.{flat_map}
use Rattle.std.specs.Simd.{first_chunks}
use mir.Syntax.{w16}
use Rattle.std.proofs.lemmas.Bool.{eq-eqb, eqb-true, cases_Bool}
use Rattle.bits.specs.Bits.{table}
use Rattle.bits.proofs.Arrays.{chunk_at}
use Rattle.bits.proofs.Tables.{length-table, nth-table}
use Rattle.host.specs.Crossing.{symbol_at, symbols_in, symbol_octets}

symbols_table : (xs : List ℕ) (n : ℕ) → length xs ≡ 2 * n → symbols_in xs ≡ table n (symbol_at xs)
unfolding symbols_in
symbols_table xs n h =
    let e : eqb (length xs % 2) 0 ≡ true = eq-eqb _ _ (omega arith) in
    let m : length xs / 2 ≡ n = omega arith in
    rw (e, m)

-- what was loaded, or stored, symbol by symbol
pub crossed : (xs symbols : List ℕ) → length xs ≡ 2 * length symbols → ((k : ℕ) → k < length symbols → symbol_at xs k ≡ get_or symbols k 0) → symbols_in xs ≡ symbols
crossed xs symbols h e =
    let n : ℕ = length symbols in
    symbols_table xs n h
    ∙ ext_get_or 0 (table n (symbol_at xs)) symbols (length-table n (symbol_at xs)) (λ k l.
    let m : k < n = rw (length-table n (symbol_at xs)) at l in nth-table n (symbol_at xs) k m ∙ e k m)

pair_at : (xs : List ℕ) (n k j : ℕ) → k < n → j < 2 → get_or (get_or (first_chunks 2 n xs) k []) j 0 ≡ get_or xs (2 * k + j) 0
pair_at xs n k j h l = rw (chunk_at 2 n xs k h) (get_or-take 2 (drop (2 * k) xs) j 0 l ∙ get_or-drop (2 * k) xs j 0)

-- the number of two octets
abbrev pub low_first : List ℕ → ℕ
low_first pair = get_or pair 0 0 + 256 * get_or pair 1 0

pub low_first-pair : (xs : List ℕ) (n k : ℕ) → k < n → low_first (get_or (first_chunks 2 n xs) k []) ≡ symbol_at xs k
low_first-pair xs n k h =
    ap₂ (λ (u v : ℕ). u + 256 * v) (pair_at xs n k 0 h (omega arith) ∙ ap (λ (i : ℕ). get_or xs i 0) (add-zero (2 * k))) (pair_at xs n k 1 h (omega arith))

-- a buffer whose symbols are n has 2 n octets
pub length_from-symbols_in : (xs : List ℕ) (n : ℕ) → 0 < n → length (symbols_in xs) ≡ n → length xs ≡ 2 * n
unfolding symbols_in
length_from-symbols_in xs n p h = elim (cases_Bool (eqb (length xs % 2) 0)) [
  | inl e ↦ let k = rw e at h in let m = length-table (length xs / 2) (symbol_at xs) in let q = eqb-true _ _ e in omega arith
  | inr e ↦ let k = rw e at h in absurd (omega arith)
]

pub length-symbols_in : (xs : List ℕ) (n : ℕ) → length xs ≡ 2 * n → length (symbols_in xs) ≡ n
length-symbols_in xs n h = ap length (symbols_table xs n h) ∙ length-table n (symbol_at xs)

-- pairs of octets, one for each symbol
pub pairs_of : (xs : List ℕ) (ps : List (List ℕ)) → length ps ≡ length xs → ((k : ℕ) → k < length xs → get_or ps k [] ≡ to_le_bytes w16 (get_or xs k 0)) → ps ≡ map (to_le_bytes w16) xs
pairs_of xs ps n h = ext_get_or [] ps (map (to_le_bytes w16) xs) (n ∙ sym (length-map xs (to_le_bytes w16))) (λ k l.
    h k (omega arith) ∙ sym (get_or-map (to_le_bytes w16) xs k 0 [] (omega arith)))

-- symbols stored one after another
pub stored : (xs : List ℕ) → ((k : ℕ) → get_or xs k 0 < 2 ^ 16) → flat_map (λ l. l) (map (to_le_bytes w16) xs) ≡ symbol_octets xs
unfolding symbol_octets
stored [] small = refl
stored (x ∷ xs) small =
    let s = small 0 in
    let high : x / 256 % 256 ≡ x / 256 = omega arith in
    rw (high, stored xs (λ k. small (suc k))) refl
