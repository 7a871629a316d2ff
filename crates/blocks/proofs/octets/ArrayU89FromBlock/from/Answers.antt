use Rattle.std.proofs.Common.{ℕ, List, ◌∷◌, sym, ◌∙◌, ap₂, append-nil}
use Rattle.bits.proofs.Octets.{eight_octets}
use Rattle.blocks.proofs.octets.ArrayU89FromBlock.from.Goals as goal

pub returns : goal.returns
returns c = ap₂ (λ (k : ℕ) (l : List ℕ). k ∷ l) c.from.ensures (append-nil _ ∙ c.copy_from_slice.ensures.after ∙ c.to_le_bytes.ensures ∙ sym (eight_octets c.args.block.payload))
