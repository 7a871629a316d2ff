-- What a command reads and writes, where the bytes of its reader and its writer are known. Assumes nothing.
use Rattle.std.specs.Prelude.{◌≡◌, ◌<◌, ℕ, List, ◌++◌, length, take, ⊤, None, Some, MatchResult, Option, Result}
use Rattle.std.specs.Io.KnownBytes.{Appends, Consumes, IsAtEnd}

-- a front part of the text was appended
abbrev pub AppendsFront : Option (List ℕ) → Option (List ℕ) → List ℕ → Type 0
AppendsFront old new text = (done : List ℕ) × (left : List ℕ) × (text ≡ done ++ left) × Appends old new done

-- the whole text at `Ok`, a front part of it at `Err`
abbrev pub Writes : {A E : Type 0} → Option (List ℕ) → Option (List ℕ) → Result A E → List ℕ → Type 0
Writes old new r text = MatchResult r (λ _. Appends old new text) (λ _. AppendsFront old new text)

-- the buffer was filled from the front, and as far as the bytes go
abbrev pub Fills : {E : Type 0} → Option (List ℕ) → Option (List ℕ) → Result ℕ E → List ℕ → Type 0
Fills old new r buf = MatchResult r (λ n. Consumes old new (take n buf) × (n < length buf → IsAtEnd new)) (λ _. ⊤)

-- what a command writes is this text of all that its reader has left
abbrev pub Prints : {A E : Type 0} → Option (List ℕ) → (List ℕ → List ℕ) → Option (List ℕ) → Option (List ℕ) → Result A E → Type 0
Prints None text old new r = ⊤
Prints (Some input) text old new r = Writes old new r (text input)
