-- Records one after another in a buffer. Assumes nothing.
use Rattle.std.specs.Prelude.{ℕ, zero, suc, ◌+◌, Bool, true, if◌then◌else◌, List, [], ◌∷◌, length, take, drop, Some, None, Ok, Err, Option, Result, ◌==◌, nat_le}
use Rattle.blocks.specs.declared.refusal.Refusal.{Refusal}
use Rattle.blocks.specs.declared.refusal.Refusal.TheVariants.{Length, Kind}

-- a record by its case, with the bytes of its body; a bad header is 11 or 00
pub data Item : Type 0 where
  data_item : List ℕ → Item
  control_item : List ℕ → Item
  bad_item : Bool → List ℕ → Item
  note_item : List ℕ → Item

-- kinds 0 to 3 are blocks, with a body of eight octets; 16 is the pair note, with one of three
abbrev pub known : ℕ → Bool
known k = if nat_le k 3 then true else k == 16

abbrev pub size_of : ℕ → ℕ
size_of k = if k == 16 then 3 else 8

abbrev pub item_of : ℕ → List ℕ → Item
item_of k body = if k == 16 then note_item body else if k == 2 then data_item body else if k == 1 then control_item body else bad_item (k == 3) body

-- the record of index n, which begins at the front
unfoldable pub look : ℕ → List ℕ → Result (Option (ℕ × Item)) Refusal
look n [] = Ok None
look n (k ∷ xs) = if known k then (if nat_le (size_of k) (length xs) then Ok (Some (n, item_of k (take (size_of k) xs))) else Err Length) else Err (Kind n)

-- the bytes of the record at the front, its kind and its body
abbrev pub record_size : List ℕ → ℕ
record_size [] = 0
record_size (k ∷ xs) = 1 + size_of k

-- where record n begins in a buffer, and what stands there
unfoldable pub offset_of : List ℕ → ℕ → ℕ
offset_of xs zero = 0
offset_of xs (suc n) = offset_of xs n + record_size (drop (offset_of xs n) xs)

abbrev pub rest_at : List ℕ → ℕ → List ℕ
rest_at xs n = drop (offset_of xs n) xs

-- a reader goes on where a record was read, and stays where none was
abbrev pub moved : Result (Option (ℕ × Item)) Refusal → ℕ → ℕ
moved (Ok (Some p)) n = n + 1
moved (Ok None) n = n
moved (Err e) n = n

-- what n reads answer, one after the other, from record i on
unfoldable pub reads : List ℕ → ℕ → ℕ → List (Result (Option (ℕ × Item)) Refusal)
reads xs i zero = []
reads xs i (suc n) = look i (rest_at xs i) ∷ reads xs (moved (look i (rest_at xs i)) i) n
