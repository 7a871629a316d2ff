-- Bits as symbols, and back.
use Rattle.std.proofs.Common.{◌≡◌, ℕ, zero, suc, ◌+◌, ◌-◌, ◌*◌, ◌<◌, ◌≤◌, List, ◌++◌, length, take, drop, sym, refl, ap, ◌∙◌, ap₂, inl, inr, arith, length-append, length-drop}
use Rattle.std.proofs.lemmas.List.{take_at, drop_at, take-append-drop, length-take-le, get_or_past}
use Rattle.std.proofs.lemmas.Bool.{cases_lt}
use Rattle.bits.specs.Bits.{Binary, field, number, table, nth}
use Rattle.bits.proofs.Fields.{length-field}
use Rattle.bits.proofs.Numbers.{field-number, number_small}
use Rattle.bits.proofs.Tables.{table-append, length-table, nth-table}
use Rattle.blocks.proofs.Parts.{take_past}
use Rattle.bits.proofs.Binary.{binary_none, binary_append, binary_take, binary_drop, binary_field}
use Rattle.lanes.specs.Markers.{symbol_in}
use Rattle.pairs.specs.Messages.{symbol_bits}

pub length-symbol_bits : (n : ℕ) (f : ℕ → ℕ) → length (symbol_bits n f) ≡ 10 * n
unfolding symbol_bits
length-symbol_bits zero f = refl
length-symbol_bits (suc n) f = length-append (symbol_bits n f) (field (f n) 0 10) ∙ ap₂ (λ (i j : ℕ). i + j) (length-symbol_bits n f) (length-field (f n) 0 10) ∙ omega arith

pub binary_symbol_bits : (n : ℕ) (f : ℕ → ℕ) → Binary (symbol_bits n f)
unfolding symbol_bits
binary_symbol_bits zero f = binary_none
binary_symbol_bits (suc n) f = binary_append (symbol_bits n f) (field (f n) 0 10) (binary_symbol_bits n f) (binary_field (f n) 0 10)

pub symbol_bits-same : (n : ℕ) (f g : ℕ → ℕ) → ((i : ℕ) → i < n → f i ≡ g i) → symbol_bits n f ≡ symbol_bits n g
unfolding symbol_bits
symbol_bits-same zero f g h = refl
symbol_bits-same (suc n) f g h =
    ap₂ (λ (u v : List ℕ). u ++ v) (symbol_bits-same n f g (λ i l. h i (omega arith))) (ap (λ (x : ℕ). field x 0 10) (h n (omega arith)))

pub symbol_in-small : (bs : List ℕ) (i : ℕ) → Binary bs → symbol_in bs i < 1024
unfolding symbol_in
symbol_in-small bs i b = number_small 10 (drop (10 * i) bs) (binary_drop (10 * i) bs b)

-- the symbols of bits have these bits
pub symbol_bits_in : (n : ℕ) (bs : List ℕ) → Binary bs → 10 * n ≤ length bs → symbol_bits n (symbol_in bs) ≡ take (10 * n) bs
unfolding symbol_bits symbol_in
symbol_bits_in zero bs b h = refl
symbol_bits_in (suc n) bs b h =
    let m : length (drop (10 * n) bs) ≡ length bs - 10 * n = length-drop (10 * n) bs in
    let e : 10 * suc n ≡ 10 * n + 10 = omega arith in
    let ten : List ℕ = take 10 (drop (10 * n) bs) in
    ap₂ (λ (u v : List ℕ). u ++ v) (symbol_bits_in n bs b (omega arith))
    (field-number ten 10 (binary_take 10 (drop (10 * n) bs) (binary_drop (10 * n) bs b)) (length-take-le 10 (drop (10 * n) bs) (omega arith)))
    ∙ sym (take_past (take (10 * n) bs) (drop (10 * n) bs) (10 * n) 10 (length-take-le (10 * n) bs (omega arith)))
    ∙ ap₂ take (sym e) (take-append-drop (10 * n) bs)

-- tables: a bound on the values, and a part
pub table_below : (n m : ℕ) (f : ℕ → ℕ) → 0 < m → ((i : ℕ) → i < n → f i < m) → (i : ℕ) → nth (table n f) i < m
table_below n m f p h i = elim (cases_lt i n) [ inl l ↦ rw (nth-table n f i l) (h i l) | inr l ↦ rw (get_or_past (table n f) i 0 (rw (length-table n f) l)) p ]

pub part_table : (n m k : ℕ) (f : ℕ → ℕ) → n + m ≤ k → take m (drop n (table k f)) ≡ table m (λ i. f (n + i))
part_table n m k f h =
    let rest : ℕ = k - (n + m) in
    let e : k ≡ n + (m + rest) = omega arith in
    let g : ℕ → ℕ = λ i. f (n + i) in
    ap (λ (j : ℕ). take m (drop n (table j f))) e
    ∙ ap (λ (l : List ℕ). take m (drop n l)) (table-append n (m + rest) f)
    ∙ ap (take m) (drop_at (table n f) (table (m + rest) g) n (length-table n f) ∙ table-append m rest g)
    ∙ take_at (table m g) (table rest (λ i. g (m + i))) m (length-table m g)

pub symbol_in-table : (k i : ℕ) (f : ℕ → ℕ) → 10 * i + 10 ≤ k → symbol_in (table k f) i ≡ number (table 10 (λ j. f (10 * i + j)))
unfolding symbol_in
symbol_in-table k i f h = ap number (part_table (10 * i) 10 k f h)
