-- Scrambling 64 bits at once: what private functions of the scrambler compute. Assumes nothing.
use Rattle.std.specs.Prelude.{ℕ, ◌*◌, ◌/◌, ◌%◌, ◌^◌, bit_xor}

-- what a memory adds to the next bits, with the newest bit of the memory highest
abbrev pub tail : ℕ → ℕ
tail m = bit_xor m (m / 2 ^ 19)

-- what the bits of a word add to later bits of the word
abbrev pub taps : ℕ → ℕ
taps x = bit_xor (bit_xor x (x * 2 ^ 39 % 2 ^ 64)) (x * 2 ^ 58 % 2 ^ 64)
