-- The reduced row is monic of the same degree, and annihilates one place more.
use Rattle.std.proofs.Common.{arith}
use Rattle.decoder.specs.Words.{applied}
use Rattle.decoder.proofs.Rows.{reduced_monic, reduced_annihilates}
use Rattle.decoder.proofs.elimination.Row.reduce.Goals as goal

pub returns-clause-candidate : goal.returns-clause-candidate
returns-clause-candidate g c =
    let G = g.F.Adds.group in
    let R = g.F.Field.ring in
    let laws = g.met.F.Field.field in
    let row = c.args.self.now in
    let pivot = c.args.pivot.now in
    let window = c.args.window.now in
    let s = window.s.now in
    let q = c.neg-q.result in
    let w = c.add_times-coefficients.result in
    let added = c.add_times-coefficients.ensures in
    let b = applied G R pivot.coefficients s window.k window.n in
    let over = c.requires.inverse in
    let unit = laws.inverse b c.requires.remains in
    record {
      small = c.requires.row.small;
      monic = reduced_monic G R laws row.degree pivot.degree row.coefficients pivot.coefficients q w (omega arith) c.requires.lower (omega (arith, c.requires.row.small, window.fits.0)) c.requires.row.monic c.requires.pivot.monic added;
      annihilates =
          reduced_annihilates G R laws row.coefficients pivot.coefficients q w s window.n window.k c.args.over window.fits.0 added c.requires.row.annihilates c.requires.pivot.annihilates
          (cc)
          (cc);
    }
