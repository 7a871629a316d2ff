-- Tables of numbers.
use Rattle.std.proofs.Common.{◌≡◌, ℕ, zero, suc, ◌+◌, ◌<◌, List, ◌∷◌, ◌++◌, length, take, sym, refl, ap, ◌∙◌, ap₂, add-zero, suc-add, zero-add, arith}
use Rattle.std.proofs.lemmas.List.{take_at}
use Rattle.bits.specs.Bits.{bit, field, table, nth}

pub table_same : (n : ℕ) (f g : ℕ → ℕ) → ((i : ℕ) → i < n → f i ≡ g i) → table n f ≡ table n g
unfolding table
table_same zero f g h = refl
table_same (suc n) f g h = ap₂ (λ (x : ℕ) (l : List ℕ). x ∷ l) (h 0 (omega arith)) (table_same n (λ i. f (suc i)) (λ i. g (suc i)) (λ i l. h (suc i) (omega arith)))

pub table-append : (m n : ℕ) (f : ℕ → ℕ) → table (m + n) f ≡ table m f ++ table n (λ i. f (m + i))
unfolding table
table-append zero n f = rw zero-add (table_same n f (λ i. f (0 + i)) (λ i l. ap f (sym (zero-add i))))
table-append (suc m) n f =
    rw suc-add (ap (λ (l : List ℕ). f 0 ∷ l) (table-append m n (λ i. f (suc i))
    ∙ ap (λ (l : List ℕ). table m (λ i. f (suc i)) ++ l) (table_same n (λ i. f (suc (m + i))) (λ i. f (suc m + i)) (λ i l. ap f (sym (suc-add m i))))))

pub table-suc : (n : ℕ) (f : ℕ → ℕ) → table (suc n) f ≡ f 0 ∷ table n (λ i. f (suc i))
unfolding table
table-suc n f = refl

pub length-table : (n : ℕ) (f : ℕ → ℕ) → length (table n f) ≡ n
unfolding table
length-table zero f = refl
length-table (suc n) f = ap suc (length-table n (λ i. f (suc i)))

pub take-table : (m n : ℕ) (f : ℕ → ℕ) → take m (table (m + n) f) ≡ table m f
take-table m n f = ap (take m) (table-append m n f) ∙ take_at (table m f) (table n (λ i. f (m + i))) m (length-table m f)

pub nth-table : (n : ℕ) (f : ℕ → ℕ) (i : ℕ) → i < n → nth (table n f) i ≡ f i
unfolding table
nth-table zero f i l = absurd (omega arith)
nth-table (suc n) f zero l = refl
nth-table (suc n) f (suc i) l = nth-table n (λ j. f (suc j)) i (omega arith)

pub field-table : (x i n : ℕ) → field x i n ≡ table n (λ j. bit x (i + j))
unfolding field table
field-table x i zero = refl
field-table x i (suc n) =
    ap₂ (λ (b : ℕ) (l : List ℕ). b ∷ l) (ap (bit x) (sym (add-zero i)))
    (field-table x (suc i) n ∙ table_same n (λ j. bit x (suc i + j)) (λ j. bit x (i + suc j)) (λ j l. ap (bit x) (omega arith)))
