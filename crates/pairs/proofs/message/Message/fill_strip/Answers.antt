use Rattle.std.proofs.Common.{ℕ, List, ◌∙◌, ap₂}
use Rattle.pairs.specs.Strips.{strip_octets, strip_of}
use Rattle.pairs.proofs.WaysBack.{pair_laws}
use Rattle.pairs.proofs.message.Message.fill_strip.Goals as goal

pub returns-clause-strip : goal.returns-clause-strip
unfolding strip_of
returns-clause-strip g c = let lanes : ℕ = g.R.Rate.layout.lanes in c.fill.ensures ∙ ap₂ (λ (u v : List ℕ). strip_octets lanes u v lanes) c.words.ensures.0 c.words.ensures.1

pub returns-clause-laws : goal.returns-clause-laws
returns-clause-laws g c = pair_laws g.R.Rate.layout g.met.R.Rate.lawful
