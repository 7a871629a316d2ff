-- The numbers and places of refusals, and their text. Assumes nothing.
use Rattle.std.specs.Prelude.{ℕ, List, ◌++◌, codes}
use Rattle.std.specs.Fmt.{decimal}
use Rattle.blocks.specs.declared.refusal.Refusal.{Refusal}
use Rattle.blocks.specs.declared.refusal.Refusal.TheVariants.{Length, Kind, Start}

abbrev pub number_of : Refusal → ℕ
number_of Length = 3
number_of (Kind i) = 4
number_of Start = 5

abbrev pub place_of : Refusal → ℕ
place_of Length = 0
place_of (Kind i) = i
place_of Start = 0

-- in decimal digits, with a space between
abbrev pub text_of : Refusal → List ℕ
text_of r = decimal (number_of r) ++ (codes " " ++ decimal (place_of r))
