use Rattle.std.proofs.Common.{◌≡◌, ◌+◌, ◌*◌, ◌%◌, [], ◌∷◌, ◌++◌, length, get_or, take, drop}
use Rattle.commands.specs.Lines.{digit, digits}
use Rattle.commands.proofs.line.line.Given as goal

abbrev pub invariant-loop-i : goal.invariant-loop-i
invariant-loop-i l =
    (take (2 + 2 * l.i) l.text ≡ (digit (get_or l.group 0 0 % 16) ∷ 32 ∷ []) ++ digits (take l.i (drop 1 l.group))) ×
    (drop 66 l.text ≡ 10 ∷ []) × (length l.text ≡ 67)
