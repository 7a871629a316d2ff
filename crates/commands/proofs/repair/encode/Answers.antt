use Rattle.std.proofs.Common.{rules, ◌∙◌, refl, sym, subst}
use Rattle.std.specs.Result.{IsOk}
use Rattle.commands.proofs.Repairs.{message_encoded}
use Rattle.commands.proofs.repair.encode.Goals as goal

pub unwrap-requires : goal.unwrap-requires
unwrap-requires c = subst IsOk (sym (c.encode.ensures.answer ∙ (message_encoded _ _ c.requires (search rules)).0)) refl

pub returns : goal.returns
returns c = c.encode.ensures.word ∙ (message_encoded _ _ c.requires (search rules)).1
