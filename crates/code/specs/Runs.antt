-- What runs show.
use Rattle.std.specs.Prelude.{ℕ}
use Rattle.code.specs.declared.run.Run.{Run}
use Rattle.code.specs.declared.run.Runs.{Runs}

-- its refusals in a row
abbrev pub refusals_in : Run → ℕ
refusals_in r = r.refusals

abbrev pub refusals_of_a : Runs → ℕ
refusals_of_a r = refusals_in r.a

abbrev pub refusals_of_b : Runs → ℕ
refusals_of_b r = refusals_in r.b
