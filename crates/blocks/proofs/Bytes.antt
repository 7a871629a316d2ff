-- A group in a buffer, and its records back in another.
use Rattle.std.proofs.Common.{◌≡◌, ℕ, zero, suc, ◌+◌, ◌*◌, ◌^◌, ◌<◌, ◌≤◌, false, ltb, List, [], ◌∷◌, ◌++◌, length, take, drop, Some, None, Option, sym, refl, ap, ◌∙◌, ap₂, inl, inr, arith, length-drop}
use Rattle.std.proofs.lemmas.List.{take-append-drop, length-take-le, get_or-drop, take_all, nil_from_length}
use Rattle.std.proofs.lemmas.Bool.{eq-eqb, ne_eqb, cases_eq, ltb-false}
use Rattle.std.specs.Option.{option_map}
use Rattle.bits.specs.Bits.{field, number, octet_bits, octets, nth, Binary, Octets}
use Rattle.bits.specs.Lowest.{lowest}
use Rattle.bits.proofs.Lowest.{none_below}
use Rattle.bits.proofs.Octets.{length-octets}
use Rattle.bits.proofs.Numbers.{field-number, number_small, bits_of-octets, octets_of-bits, length-octet_bits, binary_octets}
use Rattle.blocks.specs.Blocks.{kind_of, header_of, record_of, block_in, records_of, blocks_in}
use Rattle.blocks.specs.Calls.{begun, kind_above_3, bad_kind, four_refused, write_refused, written, read_refused, read_records, BytesReturn, BuffersReturn}
use Rattle.blocks.specs.Groups.{group_bits, group_octets, group_bits_in, read_back}
use Rattle.blocks.specs.Sound.{Payloads}
use Rattle.blocks.specs.declared.block.Block.{Block}
use Rattle.blocks.specs.declared.refusal.Refusal.TheVariants.{Kind}
use Rattle.blocks.proofs.Returned.{groups_return}
use Rattle.blocks.proofs.Shapes.{binary_group, length-group}

-- the bits of a group out of its octets
pub octets_keep : (g : List ℕ) → Binary g → length g ≡ 257 → group_bits_in (group_octets g) ≡ g
octets_keep [] b n = absurd (omega arith)
octets_keep (x ∷ g) b n =
    let small : x < 2 = b 0 in
    ap₂ (λ (y : ℕ) (l : List ℕ). y ∷ l) (omega arith) (bits_of-octets 32 g (λ i. b (suc i)) (omega arith))

-- the payloads of records have 64 bits
pub payloads_in : (n : ℕ) (xs : List ℕ) → Payloads (blocks_in n xs)
unfolding blocks_in
payloads_in zero xs = tt
payloads_in (suc n) xs =
    let eight : List ℕ = take 8 (drop 1 xs) in
    (payload_small eight (take_short 8 (drop 1 xs)), payloads_in n (drop 9 xs))
  where
    take_short : (k : ℕ) (ys : List ℕ) → length (take k ys) ≤ k
    take_short zero ys = omega arith
    take_short (suc k) [] = omega arith
    take_short (suc k) (y ∷ ys) = let h = take_short k ys in omega arith

    payload_small : (ys : List ℕ) → length ys ≤ 8 → number (octet_bits ys) < 2 ^ 64
    payload_small ys h =
        let all : take 64 (octet_bits ys) ≡ octet_bits ys = take_all 64 (octet_bits ys) (omega (arith, length-octet_bits ys)) in
        rw all at (number_small 64 (octet_bits ys) (binary_octets ys))

pub length-blocks_in : (n : ℕ) (xs : List ℕ) → length (blocks_in n xs) ≡ n
unfolding blocks_in
length-blocks_in zero xs = refl
length-blocks_in (suc n) xs = ap suc (length-blocks_in n (drop 9 xs))

kind_kept : (k : ℕ) → k < 4 → kind_of (header_of k) ≡ k
kind_kept zero l = refl
kind_kept (suc zero) l = refl
kind_kept (suc (suc zero)) l = refl
kind_kept (suc (suc (suc zero))) l = refl
kind_kept (suc (suc (suc (suc k)))) l = absurd (omega arith)

-- the first record, out of its block
record_kept : (xs : List ℕ) → 9 ≤ length xs → Octets xs → nth xs 0 < 4 → record_of (block_in xs) ≡ take 9 xs
record_kept [] l o k = absurd (omega arith)
record_kept (x ∷ xs) l o k =
    let eight : List ℕ = take 8 xs in
    let n : length eight ≡ 8 = length-take-le 8 xs (omega arith) in
    let small : Octets eight = λ i. taken_small i in
    let bits : field (number (octet_bits eight)) 0 64 ≡ octet_bits eight = field-number (octet_bits eight) 64 (binary_octets eight) (length-octet_bits eight ∙ omega arith) in
    let back : octets 8 (octet_bits eight) ≡ eight = ap (λ (j : ℕ). octets j (octet_bits eight)) (sym n) ∙ octets_of-bits eight small in
    ap₂ (λ (y : ℕ) (l : List ℕ). y ∷ l) (kind_kept x k) (ap (octets 8) bits ∙ back)
  where
    taken_small : (i : ℕ) → nth (take 8 xs) i < 256
    taken_small i = go 8 xs i (λ j. o (suc j))
      where
        go : (n : ℕ) (ys : List ℕ) (i : ℕ) → Octets ys → nth (take n ys) i < 256
        go zero ys i h = omega arith
        go (suc n) [] i h = omega arith
        go (suc n) (y ∷ ys) zero h = h 0
        go (suc n) (y ∷ ys) (suc i) h = go n ys i (λ j. h (suc j))

-- records whose kinds are up to 3, out of their blocks
pub records_kept : (n : ℕ) (xs : List ℕ) → length xs ≡ 9 * n → Octets xs → ((i : ℕ) → i < n → nth xs (9 * i) < 4) → records_of (blocks_in n xs) ≡ xs
unfolding blocks_in records_of
records_kept zero xs l o k = sym (nil_from_length xs l)
records_kept (suc n) xs l o k =
    ap₂ (λ (u v : List ℕ). u ++ v) (record_kept xs (omega arith) o (k 0 (omega arith)))
    (records_kept n (drop 9 xs) (length-drop 9 xs ∙ omega arith) (λ i. rw get_or-drop (o (9 + i))) (λ i h.
    let e : 9 + 9 * i ≡ 9 * suc i = omega arith in
    rw (get_or-drop, e) (k (suc i) (omega arith))))
    ∙ take-append-drop 9 xs

-- what is not refused
four_long : (xs : List ℕ) → four_refused xs ≡ None → length xs ≡ 36
unfolding four_refused
four_long xs e = elim (cases_eq (length xs) 36) [
  | inl h ↦ h
  | inr h ↦ let z = rw (ne_eqb _ _ h) at e in absurd (cc)
]

kinds_small : (xs : List ℕ) → four_refused xs ≡ None → (i : ℕ) → i < 4 → nth xs (9 * i) < 4
unfolding four_refused bad_kind
kinds_small xs e i l =
    let n : length xs ≡ 36 = four_long xs e in
    let b : begun xs ≡ 4 = omega arith in
    let f = rw (eq-eqb _ _ n, b) at e in
    let none = none_mapped Kind (lowest (kind_above_3 xs) 4) f in
    let z : ltb 3 (nth xs (9 * i)) ≡ false = none_below (kind_above_3 xs) 4 none i l in
    let le = ltb-false _ _ z in
    omega arith
  where
    none_mapped : {A B : Type 0} (f : A → B) (o : Option A) → option_map f o ≡ None → o ≡ None
    none_mapped f None h = refl
    none_mapped f (Some a) h = absurd (cc)

module _ (xs group out : List ℕ) (o : Octets xs) (taken : four_refused xs ≡ None) (g33 : length group ≡ 33) (o36 : length out ≡ 36) where
  abbrev bs : List Block
  bs = blocks_in 4 xs

  was_written : written xs group ≡ group_octets (group_bits bs)
  unfolding written write_refused
  was_written = rw (eq-eqb _ _ g33, taken) refl

  was_read : (ys : List ℕ) → length ys ≡ 33 → read_records ys out ≡ records_of (read_back (group_bits_in ys))
  unfolding read_records read_refused
  was_read ys n = rw (eq-eqb _ _ n, eq-eqb _ _ o36) refl

  back : read_records (written xs group) out ≡ records_of (read_back (group_bits bs))
  back =
      let four : length bs ≡ 4 = length-blocks_in 4 xs in
      ap (λ (ys : List ℕ). read_records ys out) was_written
      ∙ was_read (group_octets (group_bits bs)) (ap suc (length-octets 32 (drop 1 (group_bits bs))))
      ∙ ap (λ (b : List ℕ). records_of (read_back b)) (octets_keep (group_bits bs) (binary_group bs) (length-group bs four))

  bytes_return : BytesReturn xs group out
  bytes_return =
      let r = groups_return bs (length-blocks_in 4 xs) (payloads_in 4 xs) in
      record {
        any = back ∙ ap records_of r.any;
        whole = λ s. back ∙ ap records_of (r.whole s) ∙ records_kept 4 xs (four_long xs taken) o (kinds_small xs taken);
      }

pub buffers_return : BuffersReturn
buffers_return = bytes_return
