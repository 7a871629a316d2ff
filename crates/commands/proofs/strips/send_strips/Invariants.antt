-- The pairs so far are sent.
use Rattle.std.proofs.Common.{◌≡◌, ◌*◌, ◌≤◌, length}
use Rattle.sender.specs.View.{state_of}
use Rattle.commands.proofs.Sends.{Stands}
use Rattle.commands.proofs.strips.send_strips.Given as goal

abbrev pub invariant-loop-pairs : goal.invariant-loop-pairs
invariant-loop-pairs g l =
    Stands g.R.Rate.layout g.W.Write.contents (state_of l.fn.sender) (state_of l.sender) (g.I.Read.remaining l.fn.input) (g.I.Read.remaining l.input) l.fn.lanes l.lanes l.pairs l.blocks
    × (l.blocks ≤ 160 * l.pairs)
    × (length l.lanes ≡ length l.fn.lanes)
