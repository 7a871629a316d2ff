use Rattle.std.proofs.Common.{◌≡◌, ◌^◌, ◌<◌}
use Rattle.receiver.specs.Recent.{last_bits}
use Rattle.receiver.proofs.ring.Ring.window.Given as goal

abbrev pub invariant-loop-age : goal.invariant-loop-age
invariant-loop-age l = (l.bits ≡ last_bits l.age l.self l.position) × (l.bits < 2 ^ l.age)
