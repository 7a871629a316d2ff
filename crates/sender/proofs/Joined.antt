-- The strips of a sender's accepted sends are those of the sends joined.
use Rattle.std.proofs.Common.{◌≡◌, ℕ, zero, suc, ◌+◌, ◌-◌, ◌*◌, ◌/◌, ◌%◌, ◌<◌, ◌≤◌, Bool, true, false, List, [], ◌∷◌, ◌++◌, length, take, drop, is_some, sym, refl, ap, ◌∙◌, ap₂, inl, inr, append_assoc, add-zero, add-suc, mul-zero, zero-add, mul-one, mul-add, add-one, arith, length-append}
use Rattle.std.specs.Prelude.{slice_index_or, if◌then◌else◌}
use native.Mathlib.Nat.{zero-mod, mod-add-mod, mul_comm}
use Rattle.std.proofs.lemmas.Bool.{cases_Bool}
use Rattle.std.proofs.lemmas.List.{take_at}
use Rattle.std.proofs.lemmas.Nat.{div-mul-add, mod-mul-add}
use Rattle.bits.specs.Bits.{field, table, nth}
use Rattle.blocks.specs.Blocks.{blocks_in}
use Rattle.blocks.specs.Groups.{one_if}
use Rattle.blocks.specs.Scrambled.{stream_after, scrambled_bits, scrambler_after}
use Rattle.blocks.specs.declared.block.Block.{Block}
use Rattle.blocks.proofs.Scrambles.{after-append}
use Rattle.bits.proofs.Fields.{length-field}
use Rattle.bits.proofs.Tables.{table_same}
use Rattle.lanes.specs.Pads.{pad_before, pad_bit}
use Rattle.lanes.specs.Rates.{Layout, pair_bits}
use Rattle.pairs.specs.Messages.{pad_size, group_stream, message, sent_message, word}
use Rattle.pairs.specs.Packing.{Lanes}
use Rattle.pairs.specs.Returns.{strip_bit}
use Rattle.pairs.specs.Strips.{pair_bit, strip_octets, strip_of}
use Rattle.pairs.proofs.Messaged.{symbols_all}
use Rattle.pairs.proofs.Packs.{length_strip, parts_whole}
use Rattle.pairs.proofs.Streams.{length_blocks, blocks_append, length_stream, stream_append, scrambled_part, pad_behind}
use Rattle.pairs.proofs.WaysBack.{strip_bits_are}
use Rattle.sender.specs.Joins.{Send, Start, opens_at, groups_at, groups_before, markers_before, accepted_records, all_of, pairs_sent, sent_blocks, whole_stream, pads_at, message_at, strips_from, strips_of, strips_at, lane_bit, SendsJoin, LanesJoin}
use Rattle.sender.specs.States.{SenderState, started, groups_of, pair_message, state_after, pad_after, send_refused, blocks_of, sent_strip, sent_state}
use Rattle.sender.proofs.Refused.{not_refused}

-- the bits of n groups of records
abbrev records_stream : List ℕ → ℕ → List ℕ
records_stream xs n = group_stream (blocks_of n xs) n

length_records : (xs : List ℕ) (n : ℕ) → length (records_stream xs n) ≡ 257 * n
length_records xs n = let l = length_blocks (4 * n) xs in length_stream (blocks_of n xs) n (omega arith)

records_append : (xs ys : List ℕ) (m n : ℕ) → length xs ≡ 36 * m → records_stream (xs ++ ys) (m + n) ≡ records_stream xs m ++ records_stream ys n
records_append xs ys m n e =
    ap (λ (k : ℕ). group_stream (blocks_in k (xs ++ ys)) (m + n)) (mul-add 4 m n)
    ∙ ap (λ (bs : List Block). group_stream bs (m + n)) (blocks_append (4 * m) (4 * n) xs ys (omega arith))
    ∙ stream_append (blocks_of m xs) (blocks_of n ys) m n (length_blocks (4 * m) xs)

abbrev memory_of : Start → List ℕ
memory_of st = field st.scramble 0 58

abbrev pad_past : Start → ℕ → ℕ
pad_past st = nth (field st.pad 0 9)

abbrev state_with : Start → List ℕ → List ℕ → ℕ → SenderState
state_with st m p i = record { scrambler = m; pad = p; status = st.status; index = i }

-- a sender that has sent p pairs, of the records xs
abbrev pub state_at : Layout → Start → ℕ → List ℕ → SenderState
state_at r st p xs =
    state_with st (scrambler_after (memory_of st) (records_stream xs (groups_before r p)))
    (table 9 (pad_before (pad_past st) (pad_size r.lanes * markers_before r.pairs p))) (p % r.pairs)

-- the message of pair p where n groups are sent, of the records zs
abbrev message_in : Layout → Start → List ℕ → ℕ → ℕ → List ℕ
message_in r st zs n p =
    message r (opens_at r.pairs p) (pads_at r st p) st.status
    (take (257 * groups_at r p) (drop (257 * groups_before r p) (scrambled_bits (memory_of st) (records_stream zs n))))

pub groups_grow : (r : Layout) (p k : ℕ) → groups_before r p ≤ groups_before r (p + k)
unfolding groups_before
groups_grow r p zero = rw add-zero (omega arith)
groups_grow r p (suc k) = let h = groups_grow r p k in rw add-suc (omega arith)

-- the pad moves on where a pair opens a marker period
pad_steps : (past : ℕ → ℕ) (size n : ℕ) (b : Bool) →
    (if b then table 9 (pad_before (nth (table 9 (pad_before past (size * n)))) size) else table 9 (pad_before past (size * n))) ≡ table 9 (pad_before past (size * (n + one_if b)))
pad_steps past size n true =
    let e : size * n + size ≡ size * (n + 1) = sym (mul-add size n 1 ∙ ap (λ (k : ℕ). size * n + k) (mul-one size)) in
    table_same 9 _ _ (λ k h. pad_behind past (size * n) size k h ∙ ap (λ (m : ℕ). pad_before past m k) e)
pad_steps past size n false = ap (λ (k : ℕ). table 9 (pad_before past (size * k))) (sym (add-zero n))

starts : (r : Layout) (st : Start) → started st.scramble st.pad st.status ≡ state_at r st 0 []
unfolding groups_before markers_before group_stream stream_after pad_before
starts r st =
    let q : field st.pad 0 9 ≡ table 9 (pad_before (pad_past st) 0) = symbols_all (field st.pad 0 9) (pad_past st) 9 (length-field st.pad 0 9) (λ k h. refl) in
    ap (λ (v : List ℕ). state_with st (memory_of st) v 0) (q ∙ ap (λ (n : ℕ). table 9 (pad_before (pad_past st) n)) (sym (mul-zero (pad_size r.lanes))))
    ∙ ap (state_with st _ _) (sym (zero-mod r.pairs))

-- pair p, of the records ys, behind the records xs
module _ (r : Layout) (st : Start) (p : ℕ) (xs ys : List ℕ) (d : length xs ≡ 36 * groups_before r p) (e : length ys ≡ 36 * groups_at r p) where
  length_more : length (xs ++ ys) ≡ 36 * groups_before r (suc p)
  unfolding groups_before
  length_more = length-append xs ys ∙ omega arith

  -- the sender behind it
  state_steps : state_after r (state_at r st p xs) (blocks_of (groups_at r p) ys) ≡ state_at r st (suc p) (xs ++ ys)
  unfolding groups_before markers_before state_after pad_after
  state_steps =
      let m : List ℕ = memory_of st in
      let n : ℕ = groups_before r p in
      let g : ℕ = groups_at r p in
      let s : scrambler_after (scrambler_after m (records_stream xs n)) (records_stream ys g) ≡ scrambler_after m (records_stream (xs ++ ys) (n + g)) =
      sym (ap (scrambler_after m) (records_append xs ys n g d) ∙ after-append m (records_stream xs n) (records_stream ys g)) in
      let i : (p % r.pairs + 1) % r.pairs ≡ suc p % r.pairs = mod-add-mod p r.pairs 1 ∙ ap (λ (k : ℕ). k % r.pairs) (add-one p) in
      ap₂ (λ (u v : List ℕ). state_with st u v ((p % r.pairs + 1) % r.pairs)) s (pad_steps (pad_past st) (pad_size r.lanes) (markers_before r.pairs p) (opens_at r.pairs p)) ∙ ap (state_with st _ _) i

  -- its message is that of the whole
  message_is : (ws zs : List ℕ) (n : ℕ) → zs ≡ (xs ++ ys) ++ ws → groups_before r (suc p) ≤ n →
      pair_message r (state_at r st p xs) (blocks_of (groups_at r p) ys) ≡ message_in r st zs n p
  unfolding sent_message groups_before
  message_is ws zs n z h =
      let m : List ℕ = memory_of st in
      let a : ℕ = groups_before r p in
      let g : ℕ = groups_at r p in
      let size : ℕ = pad_size r.lanes in
      let k : ℕ = size * markers_before r.pairs p in
      let more : ℕ = n - (a + g) in
      let c : n ≡ a + (g + more) = omega arith in
      let whole : records_stream zs n ≡ records_stream xs a ++ (records_stream ys g ++ records_stream ws more) =
      ap₂ records_stream (z ∙ append_assoc xs ys ws) c ∙ records_append xs (ys ++ ws) a (g + more) d
      ∙ ap (λ (l : List ℕ). records_stream xs a ++ l) (records_append ys ws g more e) in
      let part : take (257 * g) (drop (257 * a) (scrambled_bits m (records_stream zs n))) ≡ scrambled_bits (scrambler_after m (records_stream xs a)) (records_stream ys g) =
      ap (λ (l : List ℕ). take (257 * g) (drop (257 * a) (scrambled_bits m l))) whole
      ∙ scrambled_part m (records_stream xs a) (records_stream ys g) (records_stream ws more) (257 * a) (257 * g) (length_records xs a) (length_records ys g) in
      let pads : table size (pad_bit (nth (table 9 (pad_before (pad_past st) k)))) ≡ table size (λ j. pad_bit (pad_past st) (k + j)) =
      table_same size _ _ (λ j l. pad_behind (pad_past st) k (suc j) 0 (omega arith) ∙ ap (λ (i : ℕ). pad_before (pad_past st) i 0) (add-suc k j)) in
      ap₂ (λ (u v : List ℕ). message r (opens_at r.pairs p) u st.status v) pads (sym part)

-- what an accepted send writes into its buffer, and what any send leaves
written_is : (r : Layout) → Lanes r.lanes → (s : SenderState) (xs buffer : List ℕ) → is_some (send_refused (groups_of r.lanes s) xs (length buffer)) ≡ false →
    take 1360 (sent_strip r s xs buffer) ≡ strip_of r.lanes (pair_message r s (blocks_of (groups_of r.lanes s) xs))
unfolding sent_strip strip_of
written_is r wide s xs buffer e =
    let bits : List ℕ = pair_message r s (blocks_of (groups_of r.lanes s) xs) in
    rw e (take_at (strip_octets r.lanes (word bits 0) (word bits 1) r.lanes) (drop 1360 buffer) 1360 (length_strip r.lanes (word bits 0) (word bits 1) r.lanes ∙ parts_whole r.lanes wide))

sent_is : (r : Layout) (s : SenderState) (xs : List ℕ) (room : ℕ) → is_some (send_refused (groups_of r.lanes s) xs room) ≡ false → sent_state r s xs room ≡ state_after r s (blocks_of (groups_of r.lanes s) xs)
unfolding sent_state
sent_is r s xs room e = rw e refl

stays_is : (r : Layout) (s : SenderState) (xs : List ℕ) (room : ℕ) → is_some (send_refused (groups_of r.lanes s) xs room) ≡ true → sent_state r s xs room ≡ s
unfolding sent_state
stays_is r s xs room e = rw e refl

-- from pair p on
joins : (r : Layout) → Lanes r.lanes → (st : Start) (cs : List Send) (p : ℕ) (xs zs : List ℕ) (n : ℕ) → length xs ≡ 36 * groups_before r p →
    zs ≡ xs ++ all_of (accepted_records r p cs) → n ≡ groups_before r (p + length (accepted_records r p cs)) →
    strips_from r (state_at r st p xs) cs ≡ strips_at r.lanes (message_in r st zs n) p (length (accepted_records r p cs))
unfolding accepted_records strips_from strips_at
joins r wide st [] p xs zs n d z m = refl
joins r wide st (c ∷ cs) p xs zs n d z m = elim (cases_Bool (is_some (send_refused (groups_at r p) c.records (length c.buffer)))) [
  | inl e ↦
      let s : SenderState = state_at r st p xs in
      rw e (ap (λ (l : SenderState). strips_from r l cs) (stays_is r s c.records (length c.buffer) e) ∙ joins r wide st cs p xs zs n d (rw e at z) (rw e at m))
  | inr e ↦
      let ys : List ℕ = c.records in
      let old : SenderState = state_at r st p xs in
      let rest : List (List ℕ) = accepted_records r (suc p) cs in
      let k : length ys ≡ 36 * groups_at r p = (not_refused (groups_at r p) ys (length c.buffer) e).count in
      let y : zs ≡ (xs ++ ys) ++ all_of rest = (rw e at z) ∙ sym (append_assoc xs ys (all_of rest)) in
      let next : p + suc (length rest) ≡ suc p + length rest = omega arith in
      let s : n ≡ groups_before r (suc p + length rest) = (rw e at m) ∙ ap (groups_before r) next in
      let grow = groups_grow r (suc p) (length rest) in
      rw e (ap₂ (λ (u : List ℕ) (us : List (List ℕ)). u ∷ us)
      (written_is r wide old ys c.buffer e ∙ ap (strip_of r.lanes) (message_is r st p xs ys d k (all_of rest) zs n y (omega arith)))
      (ap (λ (l : SenderState). strips_from r l cs) (sent_is r old ys (length c.buffer) e ∙ state_steps r st p xs ys d k) ∙ joins r wide st cs (suc p) (xs ++ ys) zs n (length_more r st p xs ys d k) y s))
]

pub sends_join : (r : Layout) → Lanes r.lanes → SendsJoin r
unfolding message_at whole_stream sent_blocks groups_before
sends_join r wide st cs =
    let n : ℕ = groups_before r (pairs_sent r cs) in
    ap (λ (l : SenderState). strips_from r l cs) (starts r st)
    ∙ joins r wide st cs 0 [] (all_of (accepted_records r 0 cs)) n refl refl (ap (groups_before r) (sym (zero-add (pairs_sent r cs))))

-- the strips by their numbers, and the bits on a lane
strip_at : (lanes : ℕ) (f : ℕ → List ℕ) (p n i : ℕ) → i < n → slice_index_or (strips_at lanes f p n) i [] ≡ strip_of lanes (f (p + i))
unfolding strips_at
strip_at lanes f p zero i h = absurd (omega arith)
strip_at lanes f p (suc n) zero h = ap (λ (k : ℕ). strip_of lanes (f k)) (sym (add-zero p))
strip_at lanes f p (suc n) (suc i) h = strip_at lanes f (suc p) n i (omega arith) ∙ ap (λ (k : ℕ). strip_of lanes (f k)) (omega arith)

message_bits_are : (lanes : ℕ) → Lanes lanes → (bits : List ℕ) (l n : ℕ) → l < lanes → n < pair_bits lanes → strip_bit lanes (strip_of lanes bits) l n ≡ pair_bit lanes (word bits 0) (word bits 1) l n
unfolding strip_of
message_bits_are lanes wide bits l n h k = strip_bits_are lanes wide (word bits 0) (word bits 1) l n h k

pub lanes_join : (r : Layout) → Lanes r.lanes → LanesJoin r
unfolding lane_bit
lanes_join r wide st cs l p n h k m =
    let size : ℕ = pair_bits r.lanes in
    let number : ℕ → ℕ → ℕ = λ q i. strip_bit r.lanes (slice_index_or (strips_of r st cs) q []) l i in
    let e : size * p + n ≡ p * size + n = ap (λ (x : ℕ). x + n) (mul_comm size p) in
    ap₂ number (ap (λ (x : ℕ). x / size) e ∙ div-mul-add p size n m) (ap (λ (x : ℕ). x % size) e ∙ mod-mul-add p size n m)
    ∙ ap (λ (strips : List (List ℕ)). strip_bit r.lanes (slice_index_or strips p []) l n) (sends_join r wide st cs)
    ∙ ap (λ (strip : List ℕ). strip_bit r.lanes strip l n) (strip_at r.lanes (message_at r st cs) 0 (pairs_sent r cs) p k ∙ ap (λ (q : ℕ). strip_of r.lanes (message_at r st cs q)) (zero-add p))
    ∙ message_bits_are r.lanes wide (message_at r st cs p) l n h m
