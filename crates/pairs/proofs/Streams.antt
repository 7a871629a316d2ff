-- Records, blocks, groups, scrambled bits and pad bits, one after another.
use Rattle.std.proofs.Common.{◌≡◌, ℕ, zero, suc, ◌+◌, ◌-◌, ◌*◌, ◌<◌, ◌≤◌, List, ◌∷◌, ◌++◌, length, take, drop, sym, refl, ap, ◌∙◌, ap₂, append_assoc, append-nil, add-zero, add-suc, suc-add, zero-add, arith, length-append, length-drop}
use lib.Bits.{bit_xor}
use Rattle.std.proofs.lemmas.List.{get_or_append_left, take_at, take-append-le, drop_at, drop-append-le, drop-drop, length-take-le, nil_from_length}
use Rattle.bits.specs.Bits.{number, octet_bits, table, nth}
use Rattle.blocks.specs.Blocks.{header_of, block_in, blocks_in}
use Rattle.blocks.specs.Groups.{group_bits}
use Rattle.blocks.specs.Scrambled.{scrambled_bits, scrambler_after}
use Rattle.blocks.specs.declared.block.Header.{Header}
use Rattle.blocks.specs.declared.block.Block.{Block}
use Rattle.blocks.proofs.Parts.{drop_past}
use Rattle.bits.proofs.Tables.{nth-table}
use Rattle.blocks.proofs.Scrambles.{length-scrambled, scrambled-append}
use Rattle.blocks.proofs.Shapes.{length-group}
use Rattle.pairs.specs.Messages.{group_at, group_stream}
use Rattle.lanes.specs.Pads.{pad_before}

pub length_blocks : (n : ℕ) (xs : List ℕ) → length (blocks_in n xs) ≡ n
unfolding blocks_in
length_blocks zero xs = refl
length_blocks (suc n) xs = ap suc (length_blocks n (drop 9 xs))

-- a record does not see what stands behind it
block_front : (xs ys : List ℕ) → 9 ≤ length xs → block_in (xs ++ ys) ≡ block_in xs
block_front xs ys h =
    let e : take 8 (drop 1 (xs ++ ys)) ≡ take 8 (drop 1 xs) =
    ap (take 8) (drop-append-le 1 xs ys (omega arith)) ∙ take-append-le 8 (drop 1 xs) ys (simp length-drop (omega arith)) in
    let b : Header → ℕ → Block = λ k p. record { header = k; payload = p } in
    ap₂ b (ap header_of (get_or_append_left xs ys 0 0 (omega arith))) (ap (λ (l : List ℕ). number (octet_bits l)) e)

pub blocks_append : (m n : ℕ) (xs ys : List ℕ) → length xs ≡ 9 * m → blocks_in (m + n) (xs ++ ys) ≡ blocks_in m xs ++ blocks_in n ys
unfolding blocks_in
blocks_append zero n xs ys e = rw (zero-add, nil_from_length xs e)
blocks_append (suc m) n xs ys e =
    rw suc-add (ap₂ (λ (b : Block) (bs : List Block). b ∷ bs) (block_front xs ys (omega arith))
    (ap (blocks_in (m + n)) (drop-append-le 9 xs ys (omega arith)) ∙ blocks_append m n (drop 9 xs) ys (simp length-drop (omega arith))))

pub blocks_drop : (m n : ℕ) (xs : List ℕ) → drop m (blocks_in (m + n) xs) ≡ blocks_in n (drop (9 * m) xs)
unfolding blocks_in
blocks_drop zero n xs = rw zero-add
blocks_drop (suc m) n xs =
    rw suc-add (blocks_drop m n (drop 9 xs) ∙ ap (blocks_in n) (drop-drop (9 * m) 9 xs ∙ ap (λ (k : ℕ). drop k xs) (omega arith)))

pub blocks_take : (m n : ℕ) (xs : List ℕ) → take m (blocks_in (m + n) xs) ≡ blocks_in m xs
unfolding blocks_in
blocks_take zero n xs = refl
blocks_take (suc m) n xs = rw suc-add (ap (λ (bs : List Block). block_in xs ∷ bs) (blocks_take m n (drop 9 xs)))

pub blocks_group : (n g : ℕ) (xs : List ℕ) → g < n → group_at (blocks_in (4 * n) xs) g ≡ blocks_in 4 (drop (36 * g) xs)
blocks_group n g xs h =
    let r : ℕ = 4 * n - 4 * g - 4 in
    let e : 4 * n ≡ 4 * g + (4 + r) = omega arith in
    ap (λ (k : ℕ). take 4 (drop (4 * g) (blocks_in k xs))) e ∙ ap (take 4) (blocks_drop (4 * g) (4 + r) xs) ∙ blocks_take 4 r (drop (9 * (4 * g)) xs)
    ∙ ap (λ (k : ℕ). blocks_in 4 (drop k xs)) (omega arith)

pub length_stream : (bs : List Block) (n : ℕ) → 4 * n ≤ length bs → length (group_stream bs n) ≡ 257 * n
unfolding group_stream
length_stream bs zero h = refl
length_stream bs (suc n) h =
    let four : length (group_at bs n) ≡ 4 = length-take-le 4 (drop (4 * n) bs) (simp length-drop (omega arith)) in
    length-append (group_stream bs n) (group_bits (group_at bs n))
    ∙ ap₂ (λ (i j : ℕ). i + j) (length_stream bs n (omega arith)) (length-group (group_at bs n) four) ∙ omega arith

-- groups do not see what stands behind them
pub stream_front : (xs ys : List Block) (n : ℕ) → 4 * n ≤ length xs → group_stream (xs ++ ys) n ≡ group_stream xs n
unfolding group_stream
stream_front xs ys zero h = refl
stream_front xs ys (suc n) h =
    ap₂ (λ (u v : List ℕ). u ++ v) (stream_front xs ys n (omega arith))
    (ap (λ (l : List Block). group_bits (take 4 l)) (drop-append-le (4 * n) xs ys (omega arith))
    ∙ ap group_bits (take-append-le 4 (drop (4 * n) xs) ys (simp length-drop (omega arith))))

pub stream_append : (xs ys : List Block) (m n : ℕ) → length xs ≡ 4 * m → group_stream (xs ++ ys) (m + n) ≡ group_stream xs m ++ group_stream ys n
unfolding group_stream
stream_append xs ys m zero e = rw add-zero (stream_front xs ys m (omega arith) ∙ sym (append-nil (group_stream xs m)))
stream_append xs ys m (suc n) e =
    let at : drop (4 * (m + n)) (xs ++ ys) ≡ drop (4 * n) ys =
    ap (λ (k : ℕ). drop k (xs ++ ys)) (omega arith) ∙ drop_past xs ys (4 * m) (4 * n) e in
    rw add-suc (ap₂ (λ (u v : List ℕ). u ++ v) (stream_append xs ys m n e) (ap (λ (l : List Block). group_bits (take 4 l)) at)
    ∙ append_assoc (group_stream xs m) (group_stream ys n) (group_bits (group_at ys n)))

-- a part of a scrambled stream
pub scrambled_part : (m xs ys zs : List ℕ) (i j : ℕ) → length xs ≡ i → length ys ≡ j → take j (drop i (scrambled_bits m (xs ++ (ys ++ zs)))) ≡ scrambled_bits (scrambler_after m xs) ys
scrambled_part m xs ys zs i j d e =
    let a : List ℕ = scrambler_after m xs in
    ap (λ (l : List ℕ). take j (drop i l)) (scrambled-append m xs (ys ++ zs))
    ∙ ap (take j) (drop_at (scrambled_bits m xs) (scrambled_bits a (ys ++ zs)) i (length-scrambled m xs ∙ d) ∙ scrambled-append a ys zs)
    ∙ take_at (scrambled_bits a ys) (scrambled_bits (scrambler_after a ys) zs) j (length-scrambled a ys ∙ e)

-- pad bits in two parts
pub pad_joined : (past : ℕ → ℕ) (m n k : ℕ) → pad_before past (m + n) k ≡ pad_before (pad_before past m) n k
unfolding pad_before
pad_joined past m zero k = ap (λ (j : ℕ). pad_before past j k) (add-zero m)
pad_joined past m (suc n) zero = ap (λ (j : ℕ). pad_before past j 0) (add-suc m n) ∙ ap₂ bit_xor (pad_joined past m n 4) (pad_joined past m n 8)
pad_joined past m (suc n) (suc k) = ap (λ (j : ℕ). pad_before past j (suc k)) (add-suc m n) ∙ pad_joined past m n k

-- pad bits depend on the last nine before them
pub pad_same : (p q : ℕ → ℕ) (n k : ℕ) → ((j : ℕ) → j < 9 → p j ≡ q j) → k < 9 → pad_before p n k ≡ pad_before q n k
unfolding pad_before
pad_same p q zero k h l = h k l
pad_same p q (suc n) zero h l = ap₂ bit_xor (pad_same p q n 4 h (omega arith)) (pad_same p q n 8 h (omega arith))
pad_same p q (suc n) (suc k) h l = pad_same p q n k h (omega arith)

-- a memory of nine pad bits and the pad bits behind it
pub pad_behind : (past : ℕ → ℕ) (m n k : ℕ) → k < 9 → pad_before (nth (table 9 (pad_before past m))) n k ≡ pad_before past (m + n) k
pad_behind past m n k l =
    pad_same (nth (table 9 (pad_before past m))) (pad_before past m) n k (λ j h. nth-table 9 (pad_before past m) j h) l ∙ sym (pad_joined past m n k)
