-- What the type of a word says of its symbols.
use Rattle.code.specs.declared.symbols.Symbols.{Symbols}
use Rattle.code.specs.Code.{WellFormed}

pub formed : (r : Symbols 544) → WellFormed r.symbols.now
formed r = record { size = r.whole; symbols = r.small }
