-- One place more is shifted.
use Rattle.std.proofs.Common.{ℕ, ◌+◌, get_or, ◌∙◌, ap, arith}
use Rattle.std.proofs.lemmas.List.{length-set}
use lib.Bits.{bit_xor, xor_lt}
use Rattle.code.proofs.Shifting.{none-shifted, one_shifted, still_register}
use Rattle.code.proofs.remainder.ShiftRegister.shift.Goals as goal

pub loop-p-init : goal.loop-p-init
loop-p-init c = record { size = c.args.self.now.held.size; shifted = none-shifted _ _ }

pub product-requires : goal.product-requires
product-requires c =
    let next = c.requires in
    let sum = xor_lt 10 _ _ next (c.args.self.now.held.small 0) in
    (omega arith, omega arith)

pub loop-p-preserved : goal.loop-p-preserved
loop-p-preserved c =
    let now = c.loop-p.symbols in
    let p = c.loop-p.p in
    let y : ℕ = bit_xor (get_or now (p + 1) 0) c.product.result in
    record {
      size = length-set now p y ∙ c.loop-p.invariant.size;
      shifted = one_shifted _ now _ p y c.loop-p.invariant.shifted (omega arith) (ap (bit_xor (get_or now (p + 1) 0)) c.product.ensures);
    }

pub invariant_of-self : goal.invariant_of-self
invariant_of-self c =
    let next = c.requires in
    let sum = xor_lt 10 _ _ next (c.args.self.now.held.small 0) in
    record { held = still_register _ _ _ _ (omega arith) c.args.self.now.held c.loop-p.invariant.size c.loop-p.invariant.shifted }
