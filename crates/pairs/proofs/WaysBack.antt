-- The way back from the lanes to the blocks sent.
use Rattle.std.proofs.Common.{◌≡◌, ℕ, zero, suc, ◌+◌, ◌-◌, ◌*◌, ◌/◌, ◌%◌, ◌<◌, ◌≤◌, Bool, true, false, eqb, List, [], ◌∷◌, ◌++◌, length, take, drop, sym, refl, ap, ◌∙◌, ap₂, inl, inr, append_assoc, append-nil, suc-mul, div-one, arith, length-append, length-drop}
use Rattle.std.specs.Prelude.{map, slice_set, None, Some, Option}
use Rattle.std.proofs.lemmas.List.{length-set, length-map, take_at, drop_at, take_all, drop-drop, take-append-le, drop-append-le, take-append-drop, length-take-le}
use Rattle.std.proofs.lemmas.Nat.{mul-le}
use Rattle.std.proofs.lemmas.Bool.{cases_lt, cond_both}
use Rattle.bits.specs.Bits.{Binary, bit, field, number, octet_bits, table, nth}
use Rattle.bits.proofs.Fields.{length-field, number-field, number-whole}
use Rattle.bits.proofs.Tables.{table_same, length-table, nth-table, field-table}
use Rattle.bits.proofs.Octets.{length-octets}
use Rattle.bits.proofs.Binary.{binary_none, binary_append, binary_field}
use Rattle.bits.proofs.Numbers.{bits_of-octets}
use Rattle.blocks.specs.Groups.{group_bits, with_digit_at, flagged, some_zero, blocks_under, control_back, flags_back, read_back}
use Rattle.blocks.specs.declared.block.Header.{Header}
use Rattle.blocks.specs.declared.block.Header.TheVariants.{Zeros, Data, Ones}
use Rattle.blocks.specs.Scrambled.{scrambled_bits, scrambler_after, descrambled_bits, descrambler_after}
use Rattle.blocks.specs.Sound.{sound, Payloads}
use Rattle.blocks.specs.declared.block.Block.{Block}
use Rattle.blocks.proofs.Scrambles.{scrambling, length-scrambled, length-descrambled, binary_scrambled}
use Rattle.blocks.proofs.Shapes.{binary_group, length-group}
use Rattle.blocks.proofs.Returned.{groups_return}
use Rattle.code.specs.Code.{WellFormed}
use Rattle.lanes.specs.Lawful.{Lawful}
use Rattle.lanes.specs.Markers.{symbol_in}
use Rattle.lanes.specs.Rates.{Layout, pair_bits}
use Rattle.pairs.specs.Laws.{Sendable, ComesBack, PairLaws}
use Rattle.pairs.specs.Messages.{SentPair, symbol_bits, marker_block_symbol, block_size, marker_block, opening, opening_size, group_count, group_at, group_stream, message, sent_stream, sent_message, word}
use Rattle.pairs.specs.Packing.{Lanes}
use Rattle.pairs.specs.Places.{one_of, row_at, lane_at}
use Rattle.pairs.specs.Returns.{lane_bits, strip_bit, word_back, message_back, status_back, scrambled_back, stream_back, memory_back, blocks_back, pair_blocks_back, each_back}
use Rattle.pairs.specs.Strips.{pair_bit, lane_octets, strip_octets}
use Rattle.pairs.proofs.Coded.{one_word, word-nth, are_codewords}
use Rattle.pairs.proofs.Leading.{markers_lead}
use Rattle.pairs.proofs.Messaged.{symbols_all}
use Rattle.pairs.proofs.Opened.{block_filled, length-marker_block, length-opening}
use Rattle.pairs.proofs.Packs.{length_strip}
use Rattle.pairs.proofs.Placed.{Arithmetic, arithmetic, bits_of_rows, bit_at, one_to_one}
use Rattle.pairs.proofs.Streams.{length_stream}
use Rattle.pairs.proofs.Symbols.{table_below, length-symbol_bits, binary_symbol_bits, symbol_bits-same, symbol_bits_in}

-- the lanes of a strip
length_lane : (lanes : ℕ) (a b : List ℕ) (l : ℕ) → length (lane_octets lanes a b l) ≡ 1360 / lanes
unfolding lane_octets
length_lane lanes a b l = length-octets (1360 / lanes) (table (8 * (1360 / lanes)) (pair_bit lanes a b l))

pub lane_in_strip : (lanes : ℕ) (a b : List ℕ) (n l : ℕ) → l < n → take (1360 / lanes) (drop (l * (1360 / lanes)) (strip_octets lanes a b n)) ≡ lane_octets lanes a b l
unfolding strip_octets
lane_in_strip lanes a b zero l h = absurd (omega arith)
lane_in_strip lanes a b (suc n) l h =
    let size : ℕ = 1360 / lanes in
    let front : List ℕ = strip_octets lanes a b n in
    let last : List ℕ = lane_octets lanes a b n in
    let k : length front ≡ n * size = length_strip lanes a b n in
    elim (cases_lt l n) [
      | inl m ↦
          let p : suc l * size ≤ n * size = mul-le (suc l) size n size m (omega arith) in
          let q : suc l * size ≡ l * size + size = suc-mul l size in
          let r : length (drop (l * size) front) ≡ length front - l * size = length-drop (l * size) front in
          ap (take size) (drop-append-le (l * size) front last (omega arith)) ∙ take-append-le size (drop (l * size) front) last (omega arith) ∙ lane_in_strip lanes a b n l m
      | inr m ↦
          let e : l ≡ n = omega arith in
          rw e (ap (take size) (drop_at front last (n * size) k) ∙ take_all size last (let z = length_lane lanes a b n in omega arith))
    ]

pub binary_lane : (lanes : ℕ) (a b : List ℕ) (l n : ℕ) → pair_bit lanes a b l n < 2
unfolding pair_bit
binary_lane lanes a b l n = omega arith

pub lane_bits_are : (lanes : ℕ) (a b : List ℕ) (l : ℕ) → l < lanes → lane_bits lanes (strip_octets lanes a b lanes) l ≡ table (8 * (1360 / lanes)) (pair_bit lanes a b l)
unfolding lane_octets
lane_bits_are lanes a b l h =
    let n : ℕ = 8 * (1360 / lanes) in
    let f : ℕ → ℕ = pair_bit lanes a b l in
    ap octet_bits (lane_in_strip lanes a b lanes l h) ∙ bits_of-octets (1360 / lanes) (table n f) (table_below n 2 f (omega arith) (λ i k. binary_lane lanes a b l i)) (length-table n f)

pub lane_size : (lanes : ℕ) → Lanes lanes → pair_bits lanes ≡ 8 * (1360 / lanes)
lane_size lanes (inl e) = ap (λ (x : ℕ). 10880 / x) e ∙ sym (ap (λ (x : ℕ). 8 * (1360 / x)) e)
lane_size lanes (inr e) = ap (λ (x : ℕ). 10880 / x) e ∙ sym (ap (λ (x : ℕ). 8 * (1360 / x)) e)

pub strip_bits_are : (lanes : ℕ) → Lanes lanes → (a b : List ℕ) (l n : ℕ) → l < lanes → n < pair_bits lanes → strip_bit lanes (strip_octets lanes a b lanes) l n ≡ pair_bit lanes a b l n
strip_bits_are lanes wide a b l n h k =
    let size = lane_size lanes wide in
    ap (λ (bs : List ℕ). nth bs n) (lane_bits_are lanes a b l h) ∙ nth-table (8 * (1360 / lanes)) (pair_bit lanes a b l) n (omega arith)

-- rows to words
module _ (lanes : ℕ) (a b : List ℕ) where
  symbol_back : (arithmetic : Arithmetic lanes) (w x : ℕ) → w < 2 → x < 544 → nth (one_of w a b) x < 1024 → number (table 10 (λ i. pair_bit lanes a b (lane_at lanes w x) (10 * row_at lanes x + i))) ≡ nth (one_of w a b) x
  symbol_back arithmetic w x h l small =
      let y : ℕ = nth (one_of w a b) x in
      ap number (table_same 10 _ (λ i. bit y (0 + i)) (λ i m. bit_at lanes a b (lane_at lanes w x) (row_at lanes x) i w x m (arithmetic.to_word w x h) (arithmetic.to_index w x h) ∙ ap (bit y) (omega arith)) ∙ sym (field-table y 0 10))
      ∙ number-whole y 10 small

  pub words_return : Arithmetic lanes → WellFormed a → WellFormed b → (w : ℕ) → w < 2 → word_back lanes (pair_bit lanes a b) w ≡ one_of w a b
  unfolding word_back
  words_return arithmetic s t w h =
      let formed : WellFormed (one_of w a b) = cond_both (eqb w 0) a b WellFormed (λ e. s) (λ e. t) in
      sym (symbols_all (one_of w a b) _ 544 formed.size (λ x l. sym (symbol_back arithmetic w x h l (formed.symbols x l))))

-- the words do not see what stands past the lanes and the pair
pub word_back-same : (lanes : ℕ) → Lanes lanes → (f g : ℕ → ℕ → ℕ) (w : ℕ) → w < 2 → ((l n : ℕ) → l < lanes → n < pair_bits lanes → f l n ≡ g l n) → word_back lanes f w ≡ word_back lanes g w
unfolding word_back
word_back-same lanes wide f g w h same =
    let places = arithmetic lanes wide in
    let rows = bits_of_rows lanes wide in
    table_same 544 _ _ (λ x l. ap number (table_same 10 _ _ (λ i m. same (lane_at lanes w x) (10 * row_at lanes x + i) (places.to_lane w x h l) (let k = places.to_row x l in omega arith))))

-- words to message
pub message_returns : (bits : List ℕ) → Binary bits → length bits ≡ 10280 → message_back (word bits 0) (word bits 1) ≡ bits
unfolding message_back
message_returns bits b n =
    symbol_bits-same 1028 _ (symbol_in bits) (λ m l.
    let e : 2 * (m / 2) + m % 2 ≡ m = omega arith in
    ap (λ (a : List ℕ). nth a (m / 2)) (one_word bits (m % 2) (omega arith)) ∙ word-nth bits (m % 2) (m / 2) (omega arith) ∙ ap (symbol_in bits) e)
    ∙ symbol_bits_in 1028 bits b (omega arith) ∙ take_all 10280 bits (omega arith)

-- groups one after another
pub binary_stream : (bs : List Block) (n : ℕ) → Binary (group_stream bs n)
unfolding group_stream
binary_stream bs zero = binary_none
binary_stream bs (suc n) = binary_append (group_stream bs n) (group_bits (group_at bs n)) (binary_stream bs n) (binary_group (group_at bs n))

pub group_next : (bs : List Block) (g : ℕ) → group_at (drop 4 bs) g ≡ group_at bs (suc g)
group_next bs g = let e : 4 + 4 * g ≡ 4 * suc g = omega arith in ap (take 4) (drop-drop (4 * g) 4 bs ∙ ap (λ (k : ℕ). drop k bs) e)

pub stream_first : (bs : List Block) (n : ℕ) → group_stream bs (suc n) ≡ group_bits (take 4 bs) ++ group_stream (drop 4 bs) n
unfolding group_stream
stream_first bs zero = sym (append-nil (group_bits (take 4 bs)))
stream_first bs (suc n) =
    ap₂ (λ (u v : List ℕ). u ++ v) (stream_first bs n) (ap group_bits (sym (group_next bs n)))
    ∙ append_assoc (group_bits (take 4 bs)) (group_stream (drop 4 bs) n) (group_bits (group_at (drop 4 bs) n))

pub payloads-take : (n : ℕ) (bs : List Block) → Payloads bs → Payloads (take n bs)
payloads-take zero bs p = tt
payloads-take (suc n) [] p = tt
payloads-take (suc n) (b ∷ bs) p = (p.0, payloads-take n bs p.1)

pub payloads-drop : (n : ℕ) (bs : List Block) → Payloads bs → Payloads (drop n bs)
payloads-drop zero bs p = p
payloads-drop (suc n) [] p = tt
payloads-drop (suc n) (b ∷ bs) p = payloads-drop n bs p.1

pub groups_back : (n : ℕ) (bs : List Block) → length bs ≡ 4 * n → Payloads bs → blocks_back n (group_stream bs n) ≡ each_back n bs
unfolding blocks_back each_back
groups_back zero bs e p = refl
groups_back (suc n) bs e p =
    let four : length (take 4 bs) ≡ 4 = length-take-le 4 bs (omega arith) in
    let front : List ℕ = group_bits (take 4 bs) in
    let rest : List ℕ = group_stream (drop 4 bs) n in
    let size : length front ≡ 257 = length-group (take 4 bs) four in
    ap (blocks_back (suc n)) (stream_first bs n)
    ∙ ap₂ (λ (u v : List Block). u ++ v) (ap read_back (take_at front rest 257 size) ∙ (groups_return (take 4 bs) four (payloads-take 4 bs p)).any)
    (ap (blocks_back n) (drop_at front rest 257 size) ∙ groups_back n (drop 4 bs) (length-drop 4 bs ∙ omega arith) (payloads-drop 4 bs p))

pub sound_back : (n : ℕ) (bs : List Block) → length bs ≡ 4 * n → Payloads bs → ((g : ℕ) → g < n → sound (group_at bs g) ≡ true) → each_back n bs ≡ bs
unfolding each_back
sound_back zero [] e p s = refl
sound_back zero (b ∷ bs) e p s = absurd (omega arith)
sound_back (suc n) bs e p s =
    let back = groups_return (take 4 bs) (length-take-le 4 bs (omega arith)) (payloads-take 4 bs p) in
    ap₂ (λ (u v : List Block). u ++ v) (sym back.any ∙ back.whole (s 0 (omega arith)))
    (sound_back n (drop 4 bs) (length-drop 4 bs ∙ omega arith) (payloads-drop 4 bs p) (λ g l. ap sound (group_next bs g) ∙ s (suc g) (omega arith)))
    ∙ take-append-drop 4 bs

-- what opens a pair takes its room, and the scrambled groups stand behind it
opening-dropped : (r : Layout) (opens : Bool) (pads scrambled : List ℕ) (status : ℕ) → length pads + 120 * r.lanes + 3 ≡ block_size r.lanes →
    drop (opening_size r.lanes opens) (message r opens pads status scrambled) ≡ scrambled
unfolding message opening
opening-dropped r true pads scrambled status e = drop_at (marker_block r pads status) scrambled (block_size r.lanes) (length-marker_block r pads status ∙ e)
opening-dropped r false pads scrambled status e = refl

-- a pair's message has 10,280 bits
pub message_fits : (lanes : ℕ) (opens : Bool) → Lanes lanes → opening_size lanes opens + 257 * group_count lanes opens ≡ 10280
message_fits lanes true (inl e) = rw e
message_fits lanes true (inr e) = rw e
message_fits lanes false h = refl

-- four blocks are read from a group
length-under : (hs : List Header) (s : List ℕ) → length (blocks_under hs s) ≡ length hs
length-under [] s = refl
length-under (h ∷ hs) s = ap suc (length-under hs (drop 64 s))

length-control : (flags : List ℕ) (c : ℕ) (rest : List ℕ) (o : Option ℕ) → length (control_back flags c rest o) ≡ length flags
unfolding control_back
length-control flags c rest (Some d) = length-under (map flagged flags) _ ∙ length-map flags flagged
length-control flags c rest None = length-under (slice_set (map flagged flags) c Ones) _ ∙ length-set (map flagged flags) c Ones ∙ length-map flags flagged

length-flags : (flags rest : List ℕ) → length flags ≡ 4 → length (flags_back flags rest) ≡ 4
unfolding flags_back
length-flags flags rest h =
    let bad : List Header = Zeros ∷ Ones ∷ Zeros ∷ Ones ∷ [] in
    cond_both (some_zero flags) _ (blocks_under bad (with_digit_at 4 0 rest)) (λ (bs : List Block). length bs ≡ 4) (λ e. length-control flags _ rest _ ∙ h) (λ e. length-under bad (with_digit_at 4 0 rest))

length-read_back : (g : List ℕ) → 5 ≤ length g → length (read_back g) ≡ 4
unfolding read_back
length-read_back g h =
    let plain : List Header = Data ∷ Data ∷ Data ∷ Data ∷ [] in
    cond_both (eqb (nth g 0) 1) (blocks_under plain (drop 1 g)) (flags_back (take 4 (drop 1 g)) (drop 5 g)) (λ (bs : List Block). length bs ≡ 4) (λ e. length-under plain (drop 1 g))
    (λ e. length-flags (take 4 (drop 1 g)) (drop 5 g) (length-take-le 4 (drop 1 g) (simp length-drop (omega arith))))

-- the first group's blocks, and those behind them
back_first : (n : ℕ) (bits : List ℕ) → 0 < n → 257 ≤ length bits → take 4 (blocks_back n bits) ≡ read_back (take 257 bits)
unfolding blocks_back
back_first zero bits h l = absurd (omega arith)
back_first (suc n) bits h l = take_at (read_back (take 257 bits)) (blocks_back n (drop 257 bits)) 4 (length-read_back (take 257 bits) (let k = length-take-le 257 bits l in omega arith))

back_later : (n : ℕ) (bits : List ℕ) → 0 < n → 257 ≤ length bits → drop 4 (blocks_back n bits) ≡ blocks_back (n - 1) (drop 257 bits)
unfolding blocks_back
back_later zero bits h l = absurd (omega arith)
back_later (suc n) bits h l =
    let e : n ≡ suc n - 1 = omega arith in
    drop_at (read_back (take 257 bits)) (blocks_back n (drop 257 bits)) 4 (length-read_back (take 257 bits) (let k = length-take-le 257 bits l in omega arith)) ∙ ap (λ (k : ℕ). blocks_back k (drop 257 bits)) e

-- a descrambler does not see what comes later
first_part : (m ys : List ℕ) (n : ℕ) → n ≤ length ys → take n (descrambled_bits m ys) ≡ descrambled_bits m (take n ys)
first_part m ys n l =
    let front : List ℕ = take n ys in
    ap (λ (l : List ℕ). take n (descrambled_bits m l)) (sym (take-append-drop n ys))
    ∙ ap (take n) (scrambling.back_in_parts.gives m front (drop n ys))
    ∙ take_at (descrambled_bits m front) (descrambled_bits (descrambler_after m front) (drop n ys)) n (length-descrambled m front ∙ length-take-le n ys l)

groups_above : (lanes : ℕ) (opens : Bool) → Lanes lanes → 0 < group_count lanes opens
groups_above lanes true (inl e) = rw e (omega arith)
groups_above lanes true (inr e) = rw e (omega arith)
groups_above lanes false h = omega arith

module _ (r : Layout) (wide : Lanes r.lanes) (p : SentPair) (can : Sendable r.lanes p) where
  abbrev stream : List ℕ
  stream = sent_stream r.lanes p

  abbrev scrambled : List ℕ
  scrambled = scrambled_bits p.memory stream

  abbrev count : ℕ
  count = group_count r.lanes p.opens

  stream_size : length stream ≡ 257 * count
  stream_size = let n = can.block_count in length_stream p.blocks count (omega arith)

  pads_fill : length p.pads + 120 * r.lanes + 3 ≡ block_size r.lanes
  pads_fill = let n = can.pad_count in let k = block_filled r.lanes wide in omega arith

  pub binary_sent : Binary (sent_message r p)
  unfolding sent_message message opening marker_block
  binary_sent =
      binary_append (opening r p.opens p.pads p.status) scrambled
      (cond_both p.opens (marker_block r p.pads p.status) [] Binary
      (λ e. binary_append (symbol_bits (12 * r.lanes) (marker_block_symbol r)) (p.pads ++ field p.status 0 3) (binary_symbol_bits (12 * r.lanes) (marker_block_symbol r))
      (binary_append p.pads (field p.status 0 3) can.pads (binary_field p.status 0 3)))
      (λ e. binary_none))
      (binary_scrambled p.memory stream can.memory (binary_stream p.blocks count))

  length-opened : length (opening r p.opens p.pads p.status) ≡ opening_size r.lanes p.opens
  length-opened = length-opening r p.opens p.pads p.status wide can.pad_count

  pub length-sent : length (sent_message r p) ≡ 10280
  unfolding sent_message message
  length-sent =
      length-append (opening r p.opens p.pads p.status) scrambled ∙ ap₂ (λ (i j : ℕ). i + j) length-opened (length-scrambled p.memory stream ∙ stream_size) ∙ message_fits r.lanes p.opens wide

  module _ (a b : List ℕ) (carried : message_back a b ≡ sent_message r p) where
    scrambled_comes : scrambled_back r.lanes p.opens a b ≡ scrambled
    unfolding scrambled_back sent_message
    scrambled_comes = ap (drop (opening_size r.lanes p.opens)) carried ∙ opening-dropped r p.opens p.pads scrambled p.status pads_fill

    status_comes : p.opens ≡ true → status_back r.lanes a b ≡ p.status % 8
    unfolding status_back sent_message message opening marker_block
    status_comes first =
        let rows : List ℕ = symbol_bits (12 * r.lanes) (marker_block_symbol r) in
        let three : List ℕ = field p.status 0 3 in
        let front : List ℕ = rows ++ p.pads in
        let size : length front ≡ block_size r.lanes - 3 =
        length-append rows p.pads ∙ ap (λ (n : ℕ). n + length p.pads) (length-symbol_bits (12 * r.lanes) (marker_block_symbol r)) ∙ omega (arith, pads_fill) in
        let whole : message_back a b ≡ front ++ (three ++ scrambled) =
        carried ∙ ap (λ (o : Bool). opening r o p.pads p.status ++ scrambled) first ∙ ap (λ (l : List ℕ). l ++ scrambled) (sym (append_assoc rows p.pads three)) ∙ append_assoc front three scrambled in
        ap (λ (l : List ℕ). number (take 3 (drop (block_size r.lanes - 3) l))) whole
        ∙ ap (λ (l : List ℕ). number (take 3 l)) (drop_at front (three ++ scrambled) (block_size r.lanes - 3) size)
        ∙ ap number (take_at three scrambled 3 (length-field p.status 0 3))
        ∙ number-field p.status 0 3 ∙ ap (λ (x : ℕ). x % 8) (div-one p.status)

    stream_comes : stream_back r.lanes p.opens p.memory a b ≡ stream
    stream_comes = ap (descrambled_bits p.memory) scrambled_comes ∙ scrambling.undone p.memory stream

    blocks_come : pair_blocks_back r.lanes p.opens p.memory a b ≡ each_back count p.blocks
    blocks_come = ap (blocks_back count) stream_comes ∙ groups_back count p.blocks can.block_count can.payloads

    long : 257 ≤ length stream
    long = let n = groups_above r.lanes p.opens wide in omega (arith, stream_size)

    back_size : (m : List ℕ) → length (stream_back r.lanes p.opens m a b) ≡ length stream
    back_size m = length-descrambled m (scrambled_back r.lanes p.opens a b) ∙ ap length scrambled_comes ∙ length-scrambled p.memory stream

    first_comes : (m : List ℕ) → take 4 (pair_blocks_back r.lanes p.opens m a b) ≡ read_back (descrambled_bits m (take 257 scrambled))
    first_comes m =
        back_first count (stream_back r.lanes p.opens m a b) (groups_above r.lanes p.opens wide) (let n = back_size m in let k = long in omega arith)
        ∙ ap (λ (l : List ℕ). read_back (take 257 (descrambled_bits m l))) scrambled_comes
        ∙ ap read_back (first_part m scrambled 257 (let n = length-scrambled p.memory stream in let k = long in omega arith))

    rest_comes : (m : List ℕ) → drop 4 (pair_blocks_back r.lanes p.opens m a b) ≡ blocks_back (count - 1) (drop 257 stream)
    rest_comes m =
        back_later count (stream_back r.lanes p.opens m a b) (groups_above r.lanes p.opens wide) (let n = back_size m in let k = long in omega arith)
        ∙ ap (λ (l : List ℕ). blocks_back (count - 1) (drop 257 (descrambled_bits m l))) scrambled_comes
        ∙ ap (blocks_back (count - 1)) (scrambling.settles p.memory m stream 257 (omega arith))

    later_come : (m : List ℕ) → drop 4 (pair_blocks_back r.lanes p.opens m a b) ≡ drop 4 (each_back count p.blocks)
    later_come m = rest_comes m ∙ sym (rest_comes p.memory) ∙ ap (drop 4) blocks_come

    memory_comes : (m : List ℕ) → memory_back r.lanes p.opens m a b ≡ scrambler_after p.memory stream
    memory_comes m = ap (descrambler_after m) scrambled_comes ∙ scrambling.follows p.memory m stream (let k = long in omega arith)

    comes_back_of : ComesBack r.lanes p a b
    comes_back_of = record {
      status = status_comes;
      scrambled = scrambled_comes;
      stream = stream_comes;
      blocks = blocks_come;
      first_group = first_comes;
      later_groups = later_come;
      memory = memory_comes;
    }

  pub pair_returns : ComesBack r.lanes p (word (sent_message r p) 0) (word (sent_message r p) 1)
  pair_returns = comes_back_of (word (sent_message r p) 0) (word (sent_message r p) 1) (message_returns (sent_message r p) binary_sent length-sent)

pub pair_laws : (r : Layout) → Lawful r → PairLaws r
pair_laws r lawful = record {
  places = one_to_one r.lanes lawful.width;
  markers = markers_lead r lawful;
  codewords = are_codewords;
  back = record {
    bits = strip_bits_are r.lanes lawful.width;
    words = λ a b. words_return r.lanes a b (arithmetic r.lanes lawful.width);
    message = message_returns;
    groups = opening-dropped r;
    pair = pair_returns r lawful.width;
    sound = sound_back;
  };
}
