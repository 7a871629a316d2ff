-- Each pair that was sent comes back.
use Rattle.std.proofs.Common.{◌≡◌, ℕ, zero, suc, ◌+◌, ◌-◌, ◌*◌, ◌^◌, ◌<◌, ◌≤◌, List, [], ◌∷◌, ◌++◌, length, take, drop, sym, ap, ◌∙◌, subst, arith, length-take, length-drop}
use lib.Bits.{bit_xor}
use Rattle.std.proofs.lemmas.List.{take_all, take-append-drop, length-take-le}
use Rattle.std.proofs.lemmas.Nat.{xor_lt}
use Rattle.bits.specs.Bits.{Binary, field, number, octet_bits, nth}
use Rattle.bits.proofs.Binary.{binary_cons, binary_take, binary_field}
use Rattle.bits.proofs.Numbers.{number_small, length-octet_bits, binary_octets}
use Rattle.bits.proofs.Tables.{length-table}
use Rattle.blocks.specs.Blocks.{block_in, blocks_in}
use Rattle.blocks.specs.Scrambled.{tapped, pushed, stream_after, scrambled_bits, scrambler_after}
use Rattle.blocks.specs.Sound.{Payloads}
use Rattle.blocks.specs.declared.block.Block.{Block}
use Rattle.lanes.specs.Lawful.{Lawful}
use Rattle.lanes.specs.Rates.{Layout, pair_bits}
use Rattle.pairs.specs.Laws.{Sendable, ComesBack}
use Rattle.pairs.specs.Messages.{pad_size, group_stream, message, sent_stream, sent_message, word}
use Rattle.pairs.specs.Packing.{Lanes}
use Rattle.pairs.specs.Returns.{word_back}
use Rattle.pairs.specs.Strips.{pair_bit}
use Rattle.pairs.proofs.Coded.{one_word, word_formed}
use Rattle.pairs.proofs.Opened.{binary_pad}
use Rattle.pairs.proofs.Placed.{arithmetic}
use Rattle.pairs.proofs.Streams.{length_blocks, length_stream, stream_front, stream_append, scrambled_part}
use Rattle.pairs.proofs.Symbols.{table_below}
use Rattle.pairs.proofs.WaysBack.{payloads-take, payloads-drop, binary_stream, binary_sent, words_return, word_back-same, pair_returns, pair_laws}
use Rattle.sender.specs.Joins.{Send, Start, opens_at, groups_at, groups_before, markers_before, accepted_records, all_of, pairs_sent, sent_blocks, whole_stream, pads_at, message_at, strips_of, lane_bit, pair_at, PairReturns}
use Rattle.sender.specs.Laws.{Sending}
use Rattle.sender.proofs.Joined.{groups_grow, sends_join, lanes_join}

-- a memory of bits stays one
binary_after : (m xs : List ℕ) → Binary m → Binary xs → Binary (scrambler_after m xs)
unfolding stream_after
binary_after m [] h g = h
binary_after m (x ∷ xs) h g =
    let y : ℕ = tapped m x in
    let small : y < 2 = xor_lt 1 x (bit_xor (nth m 38) (nth m 57)) (g 0) (xor_lt 1 (nth m 38) (nth m 57) (h 38) (h 57)) in
    binary_after (pushed y m) xs (binary_cons y (take 57 m) small (binary_take 57 m h)) (λ i. g (suc i))

-- payloads of records have 64 bits
payload_in : (xs : List ℕ) → (block_in xs).payload < 2 ^ 64
payload_in xs =
    let eight : List ℕ = take 8 (drop 1 xs) in
    let few : length eight ≤ 8 = (let k = length-take 8 (drop 1 xs) in omega arith) in
    let size = length-octet_bits eight in
    subst (λ (bs : List ℕ). number bs < 2 ^ 64) (take_all 64 (octet_bits eight) (omega arith)) (number_small 64 (octet_bits eight) (binary_octets eight))

payloads_in : (n : ℕ) (xs : List ℕ) → Payloads (blocks_in n xs)
unfolding blocks_in
payloads_in zero xs = tt
payloads_in (suc n) xs = (payload_in xs, payloads_in n (drop 9 xs))

-- groups in two parts
stream_split : (bs : List Block) (a n : ℕ) → 4 * a ≤ length bs → group_stream bs (a + n) ≡ group_stream bs a ++ group_stream (drop (4 * a) bs) n
stream_split bs a n h =
    let xs : List Block = take (4 * a) bs in
    let ys : List Block = drop (4 * a) bs in
    let size : length xs ≡ 4 * a = length-take-le (4 * a) bs h in
    let whole : xs ++ ys ≡ bs = take-append-drop (4 * a) bs in
    ap (λ (l : List Block). group_stream l (a + n)) (sym whole) ∙ stream_append xs ys a n size
    ∙ ap (λ (u : List ℕ). u ++ group_stream ys n) (sym (stream_front xs ys a (omega arith)) ∙ ap (λ (l : List Block). group_stream l a) whole)

stream_taken : (bs : List Block) (n : ℕ) → 4 * n ≤ length bs → group_stream (take (4 * n) bs) n ≡ group_stream bs n
stream_taken bs n h =
    let size = length-take-le (4 * n) bs h in
    sym (stream_front (take (4 * n) bs) (drop (4 * n) bs) n (omega arith)) ∙ ap (λ (l : List Block). group_stream l n) (take-append-drop (4 * n) bs)

module _ (r : Layout) (wide : Lanes r.lanes) (st : Start) (cs : List Send) (p : ℕ) (inside : p < pairs_sent r cs) where
  abbrev pub blocks : List Block
  blocks = sent_blocks r cs

  abbrev pub all : ℕ
  all = groups_before r (pairs_sent r cs)

  abbrev pub start : ℕ
  start = groups_before r p

  abbrev pub count : ℕ
  count = groups_at r p

  blocks_size : length blocks ≡ 4 * all
  unfolding sent_blocks
  blocks_size = length_blocks (4 * all) (all_of (accepted_records r 0 cs))

  room : start + count ≤ all
  unfolding groups_before
  room =
      let more : ℕ = pairs_sent r cs - suc p in
      let e : suc p + more ≡ pairs_sent r cs = omega arith in
      subst (λ (k : ℕ). start + count ≤ groups_before r k) e (groups_grow r (suc p) more)

  payloads_all : Payloads blocks
  unfolding sent_blocks
  payloads_all = payloads_in (4 * all) (all_of (accepted_records r 0 cs))

  sendable : Sendable r.lanes (pair_at r st cs p)
  sendable = record {
    pads = table_below (pad_size r.lanes) 2 _ (omega arith) (λ i l. binary_pad (nth (field st.pad 0 9)) (binary_field st.pad 0 9) (suc (pad_size r.lanes * markers_before r.pairs p + i)) 0);
    pad_count = length-table (pad_size r.lanes) _;
    memory = binary_after (field st.scramble 0 58) (group_stream blocks start) (binary_field st.scramble 0 58) (binary_stream blocks start);
    block_count = length-take-le (4 * count) (drop (4 * start) blocks) (let n = room in let k = length-drop (4 * start) blocks in omega (arith, blocks_size));
    payloads = payloads-take (4 * count) (drop (4 * start) blocks) (payloads-drop (4 * start) blocks payloads_all);
  }

  -- its scrambled groups are its part of the whole stream
  pub part : take (257 * count) (drop (257 * start) (whole_stream r st cs)) ≡ scrambled_bits (scrambler_after (field st.scramble 0 58) (group_stream blocks start)) (sent_stream r.lanes (pair_at r st cs p))
  unfolding whole_stream
  part =
      let m : List ℕ = field st.scramble 0 58 in
      let behind : List Block = drop (4 * start) blocks in
      let rest : ℕ = all - (start + count) in
      let split : all ≡ start + (count + rest) = let n = room in omega arith in
      let behind_size : length behind ≡ 4 * all - 4 * start = length-drop (4 * start) blocks ∙ ap (λ (k : ℕ). k - 4 * start) blocks_size in
      let here : List ℕ = group_stream behind count in
      let later : List ℕ = group_stream (drop (4 * count) behind) rest in
      let whole : group_stream blocks all ≡ group_stream blocks start ++ (here ++ later) =
      ap (group_stream blocks) split ∙ stream_split blocks start (count + rest) (omega (arith, blocks_size))
      ∙ ap (λ (l : List ℕ). group_stream blocks start ++ l) (stream_split behind count rest (omega arith)) in
      ap (λ (l : List ℕ). take (257 * count) (drop (257 * start) (scrambled_bits m l))) whole
      ∙ scrambled_part m (group_stream blocks start) here later (257 * start) (257 * count) (length_stream blocks start (omega (arith, blocks_size))) (length_stream behind count (omega arith))
      ∙ ap (scrambled_bits (scrambler_after m (group_stream blocks start))) (sym (stream_taken behind count (omega arith)))

  sent : message_at r st cs p ≡ sent_message r (pair_at r st cs p)
  unfolding message_at sent_message
  sent = ap (λ (l : List ℕ). message r (opens_at r.pairs p) (pads_at r st p) st.status l) part

  binary_at : Binary (message_at r st cs p)
  binary_at = subst Binary (sym sent) (binary_sent r wide (pair_at r st cs p) sendable)

  words : (w : ℕ) → w < 2 → word_back r.lanes (λ l n. lane_bit r.lanes (strips_of r st cs) l (pair_bits r.lanes * p + n)) w ≡ word (message_at r st cs p) w
  words w h =
      let bits : List ℕ = message_at r st cs p in
      word_back-same r.lanes wide _ (pair_bit r.lanes (word bits 0) (word bits 1)) w h (λ l n k m. lanes_join r wide st cs l p n k inside m)
      ∙ words_return r.lanes (word bits 0) (word bits 1) (arithmetic r.lanes wide) (word_formed bits 0 binary_at) (word_formed bits 1 binary_at) w h ∙ one_word bits w h

  pub returns : PairReturns r st cs p
  returns = record {
    sendable = sendable;
    sent = sent;
    words = words;
    carried = subst (λ (bits : List ℕ). ComesBack r.lanes (pair_at r st cs p) (word bits 0) (word bits 1)) (sym sent) (pair_returns r wide (pair_at r st cs p) sendable);
  }

pub sending : (r : Layout) → Lawful r → Sending r
sending r lawful = record { pairs = pair_laws r lawful; joins = sends_join r lawful.width; lanes = lanes_join r lawful.width; back = returns r lawful.width }
