-- Sound groups, and what comes back of any group. Assumes nothing.
use Rattle.std.specs.Prelude.{◌≡◌, ℕ, zero, suc, ◌+◌, ◌*◌, ◌/◌, ◌%◌, ◌^◌, ◌<◌, Bool, true, false, if◌then◌else◌, List, [], ◌∷◌, length, Some, None, Option, ◌==◌, slice_set}
use Rattle.blocks.specs.Groups.{headers, all_good, some_control, first_control_place, types, high_digit, group_bits, read_back}
use Rattle.blocks.specs.declared.block.Header.{Header}
use Rattle.blocks.specs.declared.block.Header.TheVariants.{Zeros, Ones}
use Rattle.blocks.specs.declared.block.Block.{Block}

abbrev pub among : List ℕ → ℕ → Bool
among [] x = false
among (t ∷ ts) x = if t == x then true else among ts x

unfoldable pub is_type : ℕ → Bool
is_type x = among types x

-- the payload of block c
abbrev pub payload_at : ℕ → List Block → ℕ
payload_at c [] = 0
payload_at zero (b ∷ bs) = b.payload
payload_at (suc c) (b ∷ bs) = payload_at c bs

-- all headers are good, and the first control block, if any, has a listed type
unfoldable pub sound : List Block → Bool
sound bs =
    if all_good (headers bs) then (if some_control (headers bs) then is_type (payload_at (first_control_place (headers bs)) bs % 256) else true) else false

-- x with d as its bits 4 to 7
abbrev pub retyped : ℕ → ℕ → ℕ
retyped d x = x / 256 * 256 + d * 16 + x % 16

-- block c with d as its bits 4 to 7
abbrev pub put_digit : ℕ → ℕ → List Block → List Block
put_digit c d [] = []
put_digit zero d (b ∷ bs) = record { header = b.header; payload = retyped d b.payload } ∷ bs
put_digit (suc c) d (b ∷ bs) = b ∷ put_digit c d bs

-- the same payloads under other headers
abbrev pub with_headers : List Header → List Block → List Block
with_headers [] bs = []
with_headers (h ∷ hs) [] = []
with_headers (h ∷ hs) (b ∷ bs) = record { header = h; payload = b.payload } ∷ with_headers hs bs

-- The first control block c comes back with the type that has its low digit; where none has, with high digit 0 and header 11.
abbrev pub control_comes : ℕ → List Block → Option ℕ → List Block
control_comes c bs (Some d) = put_digit c d bs
control_comes c bs None = with_headers (slice_set (headers bs) c Ones) (put_digit c 0 bs)

-- what comes back of four blocks that were written as a group
unfoldable pub comes_back : List Block → List Block
comes_back bs =
    if all_good (headers bs)
    then (if some_control (headers bs) then control_comes (first_control_place (headers bs)) bs (high_digit (payload_at (first_control_place (headers bs)) bs % 16)) else bs)
    else with_headers (Zeros ∷ Ones ∷ Zeros ∷ Ones ∷ []) (put_digit 0 0 bs)

-- payloads have 64 bits
abbrev pub Payloads : List Block → Type 0
Payloads [] = Unit {0}
Payloads (b ∷ bs) = (b.payload < 2 ^ 64) × Payloads bs

pub record Returns (bs : List Block) : Type 0 where
  -- reading a group back gives exactly this
  pub any : read_back (group_bits bs) ≡ comes_back bs
  -- and a sound group as it was
  pub whole : sound bs ≡ true → read_back (group_bits bs) ≡ bs

-- the law of groups: it holds of every four blocks
abbrev pub GroupsReturn : Type 0
GroupsReturn = (bs : List Block) → length bs ≡ 4 → Payloads bs → Returns bs
