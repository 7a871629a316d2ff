-- Lines of a hunt. Assumes nothing.
use Rattle.std.specs.Prelude.{ℕ, ℤ, List, [], ◌∷◌, ◌++◌, codes}
use Rattle.std.specs.Fmt.{decimal, signed_decimal}
use Rattle.receiver.specs.Faults.{layer_of, cause_of, position_of, ticks_of}
use Rattle.receiver.specs.declared.fault.Fault.{Fault}

-- layer, cause, position and accepted ticks of a setback
abbrev pub setback_line : Fault → List ℕ
setback_line f = codes "setback " ++ (decimal (layer_of f) ++ (codes " " ++ (decimal (cause_of f) ++ (codes " " ++ (decimal (position_of f) ++ (codes " " ++ (decimal (ticks_of f) ++ 10 ∷ [])))))))

-- a position, its lane, and its skew in ticks
abbrev pub position_line : ℕ → ℕ → ℤ → List ℕ
position_line position lane skew = decimal position ++ (codes " " ++ (decimal lane ++ (codes " " ++ (signed_decimal skew ++ 10 ∷ []))))
