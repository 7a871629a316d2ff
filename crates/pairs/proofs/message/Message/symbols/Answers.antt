use Rattle.std.proofs.Common.{ℕ, zero, suc, ◌<◌, List, [], ◌∷◌, sym, ◌∙◌, ap, subst, arith}
use Rattle.bits.specs.Bits.{Binary, table}
use Rattle.bits.proofs.Binary.{binary_take}
use Rattle.pairs.specs.Messages.{word_symbol}
use Rattle.pairs.specs.Packing.{Small, word_of}
use Rattle.pairs.proofs.Coded.{symbols_small, tens_asked, tens_symbols, two_small}
use Rattle.pairs.proofs.message.Message.symbols.Goals as goal

pub symbols-requires : goal.symbols-requires
symbols-requires c = tens_asked c.self.inside.len c.self.inside.bits _ c.self.told c.as_chunks.ensures.front c.self.invariant.1.0 0 (omega arith)

pub symbols-requires-2 : goal.symbols-requires-2
symbols-requires-2 c = tens_asked c.self.inside.len c.self.inside.bits _ c.self.told c.as_chunks.ensures.front c.self.invariant.1.0 1 (omega arith)

pub returns-clause-symbols : goal.returns-clause-symbols
returns-clause-symbols c zero h =
    c.symbols.ensures ∙ tens_symbols c.self.inside.len c.self.inside.bits _ c.self.told c.as_chunks.ensures.front c.self.invariant.1.1 0 h
    ∙ ap (λ (bs : List ℕ). table 514 (word_symbol bs 0)) c.self.view_is
returns-clause-symbols c (suc zero) h =
    c.symbols-2.ensures ∙ tens_symbols c.self.inside.len c.self.inside.bits _ c.self.told c.as_chunks.ensures.front c.self.invariant.1.1 1 h
    ∙ ap (λ (bs : List ℕ). table 514 (word_symbol bs 1)) c.self.view_is
returns-clause-symbols c (suc (suc w)) h = absurd (omega arith)

pub returns-clause-small : goal.returns-clause-small
returns-clause-small c =
    let b : Binary c.args.self.now = subst Binary c.self.view_is (binary_take c.self.inside.len c.self.inside.bits c.self.invariant.1.0) in
    let small : (w : ℕ) → w < 2 → Small (word_of (c.symbols.result ∷ (c.symbols-2.result ∷ [])) w) = λ w h. subst Small (sym (returns-clause-symbols c w h)) (symbols_small c.args.self.now w b) in
    two_small c.symbols.result c.symbols-2.result (small 0 (omega arith)) (small 1 (omega arith))
