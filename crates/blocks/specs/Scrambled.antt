-- The scrambled stream and its reverse. Assumes nothing.
use Rattle.std.specs.Prelude.{◌≡◌, ℕ, ◌-◌, ◌≤◌, List, [], ◌∷◌, ◌++◌, length, take, drop, bit_xor}
use Rattle.bits.specs.Bits.{bit, table, nth}

-- A memory is the last 58 bits of a stream, the newest first. This is what a bit gives: itself xored with those 39 and 58 before it.
abbrev pub tapped : List ℕ → ℕ → ℕ
tapped m x = bit_xor x (bit_xor (nth m 38) (nth m 57))

-- the memory with one bit more
abbrev pub pushed : ℕ → List ℕ → List ℕ
pushed b m = b ∷ take 57 m

-- What bits give one after another, and the memory that they leave. `kept` says which bit is remembered, by the one that came in
-- and the one that it gave.
unfoldable pub stream_bits : (ℕ → ℕ → ℕ) → List ℕ → List ℕ → List ℕ
stream_bits kept m [] = []
stream_bits kept m (x ∷ xs) = tapped m x ∷ stream_bits kept (pushed (kept x (tapped m x)) m) xs

unfoldable pub stream_after : (ℕ → ℕ → ℕ) → List ℕ → List ℕ → List ℕ
stream_after kept m [] = m
stream_after kept m (x ∷ xs) = stream_after kept (pushed (kept x (tapped m x)) m) xs

abbrev pub what_came_in : ℕ → ℕ → ℕ
what_came_in x y = x

abbrev pub what_went_out : ℕ → ℕ → ℕ
what_went_out x y = y

-- a scrambler remembers what went out
abbrev pub scrambled_bits : List ℕ → List ℕ → List ℕ
scrambled_bits m xs = stream_bits what_went_out m xs

abbrev pub scrambler_after : List ℕ → List ℕ → List ℕ
scrambler_after m xs = stream_after what_went_out m xs

-- and its reverse what came in
abbrev pub descrambled_bits : List ℕ → List ℕ → List ℕ
descrambled_bits m ys = stream_bits what_came_in m ys

abbrev pub descrambler_after : List ℕ → List ℕ → List ℕ
descrambler_after m ys = stream_after what_came_in m ys

-- the memory held as a number, the newest bit highest
abbrev pub memory_in : ℕ → List ℕ
memory_in x = table 58 (λ k. bit x (57 - k))

-- Bits on a memory give `run`, and leave the memory `after`: those of a run in two parts are those of its parts, one after the other.
pub record InParts (run after : List ℕ → List ℕ → List ℕ) : Type 0 where
  pub gives : (m xs ys : List ℕ) → run m (xs ++ ys) ≡ run m xs ++ run (after m xs) ys
  pub leaves : (m xs ys : List ℕ) → after m (xs ++ ys) ≡ after (after m xs) ys

-- The laws of the stream, of any lists as memories and as bits.
pub record Scrambling : Type 0 where
  -- from an equal memory the reverse gives the bits back, and ends with the scrambler's memory
  pub undone : (m xs : List ℕ) → descrambled_bits m (scrambled_bits m xs) ≡ xs
  pub same_memory : (m xs : List ℕ) → descrambler_after m (scrambled_bits m xs) ≡ scrambler_after m xs
  -- from any memory it gives them from the 59th on, and ends with the scrambler's memory behind 58 bits or more
  pub settles : (m other xs : List ℕ) (n : ℕ) → 58 ≤ n → drop n (descrambled_bits other (scrambled_bits m xs)) ≡ drop n xs
  pub follows : (m other xs : List ℕ) → 58 ≤ length xs → descrambler_after other (scrambled_bits m xs) ≡ scrambler_after m xs
  -- whatever came in, 58 bits are all that it remembers
  pub forgets : (m other ys : List ℕ) → 58 ≤ length ys → descrambler_after m ys ≡ descrambler_after other ys
  -- both go in parts
  pub out_in_parts : InParts scrambled_bits scrambler_after
  pub back_in_parts : InParts descrambled_bits descrambler_after
