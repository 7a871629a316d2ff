-- The numbers and places of refusals, and how they are printed. Assumes nothing.
use Rattle.std.specs.Prelude.{ℕ, List, ◌++◌, codes}
use Rattle.std.specs.Fmt.{decimal}
use Rattle.blocks.specs.Refusals.{number_of as blocks_number, place_of as blocks_place}
use Rattle.sender.specs.declared.refusal.Refusal.{Refusal}
use Rattle.sender.specs.declared.refusal.Refusal.TheVariants.{Buffer, Blocks}

abbrev pub number_of : Refusal → ℕ
number_of Buffer = 1
number_of (Blocks e) = blocks_number e

abbrev pub place_of : Refusal → ℕ
place_of Buffer = 0
place_of (Blocks e) = blocks_place e

-- a refusal in words: its number, a space and its place
abbrev pub text_of : Refusal → List ℕ
text_of e = decimal (number_of e) ++ codes " " ++ decimal (place_of e)
