-- What the calls on buffers answer and leave. Assumes nothing.
use Rattle.std.specs.Prelude.{◌≡◌, ℕ, ◌+◌, ◌*◌, ◌/◌, Bool, true, if◌then◌else◌, List, length, is_some, Some, None, Ok, Err, Option, Result, ◌==◌, nat_lt, slice_index}
use Rattle.std.specs.Option.{option_map}
use Rattle.blocks.specs.declared.refusal.Refusal.{Refusal}
use Rattle.blocks.specs.declared.refusal.Refusal.TheVariants.{Length, Kind}
use Rattle.bits.specs.Bits.{Octets}
use Rattle.bits.specs.Lowest.{lowest}
use Rattle.blocks.specs.Blocks.{blocks_in, records_of}
use Rattle.blocks.specs.Groups.{bits_of, group_bits, group_octets, group_bits_in, read_back}
use Rattle.blocks.specs.Sound.{sound, comes_back}
use Rattle.blocks.specs.declared.group.Group.{Group}

-- records of nine bytes that begin in xs, the last perhaps cut short
abbrev pub begun : List ℕ → ℕ
begun xs = (length xs + 8) / 9

abbrev pub kind_above_3 : List ℕ → ℕ → Bool
kind_above_3 xs i = nat_lt 3 (slice_index xs (9 * i))

-- the first of them whose kind is above 3
unfoldable pub bad_kind : List ℕ → Option ℕ
bad_kind xs = lowest (kind_above_3 xs) (begun xs)

-- four block records want 36 bytes and kinds up to 3
unfoldable pub four_refused : List ℕ → Option Refusal
four_refused xs = if length xs == 36 then option_map Kind (bad_kind xs) else Some Length

-- the group that they make
abbrev pub Grouped : List ℕ → Result Group Refusal → Type 0
Grouped xs (Ok g) = (four_refused xs ≡ None) × (bits_of g ≡ group_bits (blocks_in 4 xs))
Grouped xs (Err e) = four_refused xs ≡ Some e

-- and the group written of them 33 bytes
unfoldable pub write_refused : List ℕ → List ℕ → Option Refusal
write_refused xs group = if length group == 33 then four_refused xs else Some Length

unfoldable pub written : List ℕ → List ℕ → List ℕ
written xs group = if is_some (write_refused xs group) then group else group_octets (group_bits (blocks_in 4 xs))

-- reading back wants 33 bytes of group and room for 36 bytes of records
unfoldable pub read_refused : List ℕ → List ℕ → Option Refusal
read_refused group out = if length group == 33 then (if length out == 36 then None else Some Length) else Some Length

unfoldable pub read_records : List ℕ → List ℕ → List ℕ
read_records group out = if is_some (read_refused group out) then out else records_of (read_back (group_bits_in group))

-- the answer of a call, whose value is a where nothing is refused
abbrev pub outcome_of : {A : Type 0} → A → Option Refusal → Result A Refusal
outcome_of a None = Ok a
outcome_of a (Some e) = Err e

-- Four block records xs, written into 33 bytes and read back into 36: the records of the blocks that come back, and those of a
-- sound group as they were.
pub record BytesReturn (xs group out : List ℕ) : Type 0 where
  pub any : read_records (written xs group) out ≡ records_of (comes_back (blocks_in 4 xs))
  pub whole : sound (blocks_in 4 xs) ≡ true → read_records (written xs group) out ≡ xs

-- the law of groups in buffers
abbrev pub BuffersReturn : Type 0
BuffersReturn = (xs group out : List ℕ) → Octets xs → four_refused xs ≡ None → length group ≡ 33 → length out ≡ 36 → BytesReturn xs group out
