-- The way back from the lanes to the blocks sent, step by step, from any memory of the descrambler. Assumes nothing.
use Rattle.std.specs.Prelude.{ℕ, zero, suc, ◌+◌, ◌-◌, ◌*◌, ◌/◌, ◌%◌, Bool, List, [], ◌++◌, take, drop}
use Rattle.bits.specs.Bits.{number, octet_bits, table, nth}
use Rattle.blocks.specs.Groups.{read_back}
use Rattle.blocks.specs.Scrambled.{descrambled_bits, descrambler_after}
use Rattle.blocks.specs.Sound.{comes_back}
use Rattle.blocks.specs.declared.block.Block.{Block}
use Rattle.pairs.specs.Messages.{symbol_bits, block_size, opening_size, group_count}
use Rattle.pairs.specs.Places.{one_of, row_at, lane_at}

-- the bits of lane l in a strip, and bit n of them
abbrev pub lane_bits : ℕ → List ℕ → ℕ → List ℕ
lane_bits lanes strip l = octet_bits (take (1360 / lanes) (drop (l * (1360 / lanes)) strip))

abbrev pub strip_bit : ℕ → List ℕ → ℕ → ℕ → ℕ
strip_bit lanes strip l n = nth (lane_bits lanes strip l) n

-- rows to words: word A, 0, or B, 1, where bit n of lane l is `bits l n`
unfoldable pub word_back : ℕ → (ℕ → ℕ → ℕ) → ℕ → List ℕ
word_back lanes bits w = table 544 (λ x. number (table 10 (λ i. bits (lane_at lanes w x) (10 * row_at lanes x + i))))

-- words to message: symbols of A and B in turn
unfoldable pub message_back : List ℕ → List ℕ → List ℕ
message_back a b = symbol_bits 1028 (λ m. nth (one_of (m % 2) a b) (m / 2))

-- the status: the last three bits of the marker block that opens a pair
unfoldable pub status_back : ℕ → List ℕ → List ℕ → ℕ
status_back lanes a b = number (take 3 (drop (block_size lanes - 3) (message_back a b)))

-- behind what opens the pair, the scrambled groups
unfoldable pub scrambled_back : ℕ → Bool → List ℕ → List ℕ → List ℕ
scrambled_back lanes opens a b = drop (opening_size lanes opens) (message_back a b)

-- the bits that a descrambler with this memory makes of them, and the memory that they leave
abbrev pub stream_back : ℕ → Bool → List ℕ → List ℕ → List ℕ → List ℕ
stream_back lanes opens memory a b = descrambled_bits memory (scrambled_back lanes opens a b)

abbrev pub memory_back : ℕ → Bool → List ℕ → List ℕ → List ℕ → List ℕ
memory_back lanes opens memory a b = descrambler_after memory (scrambled_back lanes opens a b)

-- groups to blocks
unfoldable pub blocks_back : ℕ → List ℕ → List Block
blocks_back zero bits = []
blocks_back (suc n) bits = read_back (take 257 bits) ++ blocks_back n (drop 257 bits)

-- the blocks that two words carry
abbrev pub pair_blocks_back : ℕ → Bool → List ℕ → List ℕ → List ℕ → List Block
pair_blocks_back lanes opens memory a b = blocks_back (group_count lanes opens) (stream_back lanes opens memory a b)

-- what comes back of n groups, each by itself
unfoldable pub each_back : ℕ → List Block → List Block
each_back zero bs = []
each_back (suc n) bs = comes_back (take 4 bs) ++ each_back n (drop 4 bs)
