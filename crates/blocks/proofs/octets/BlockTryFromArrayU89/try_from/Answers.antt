use Rattle.std.proofs.Common.{◌≡◌, ℕ, ◌<◌, List, length, take, drop, rules, get_or, sym, ap, ap₂, ◌∙◌}
use Rattle.bits.specs.Bits.{field, number, octet_bits}
use Rattle.blocks.specs.declared.block.Header.{Header}
use Rattle.bits.proofs.Fields.{number-whole}
use Rattle.bits.proofs.Octets.{le_octets}
use Rattle.blocks.proofs.Buffers.{header_known}
use Rattle.blocks.proofs.octets.BlockTryFromArrayU89.try_from.Goals as goal

pub returns : goal.returns
returns c =
    let xs : List ℕ = c.args.record in
    let k = c.in_ok-header.ensures in
    let h = header_known _ _ k in
    let n : length xs ≡ 9 = search rules in
    let t : c.unwrap-payload.result ≡ take 8 (drop 1 xs) = search rules in
    let m : length c.unwrap-payload.result ≡ 8 = search rules in
    let small : (i : ℕ) → get_or c.unwrap-payload.result i 0 < 256 = search rules in
    let p : c.from_le_bytes.result ≡ number (octet_bits (take 8 (drop 1 xs))) =
    sym (number-whole c.from_le_bytes.result 64 c.from_le_bytes.type_inv) ∙ ap number (ap (λ (x : ℕ). field x 0 64) c.from_le_bytes.ensures ∙ le_octets c.unwrap-payload.result m small ∙ ap octet_bits t) in
    (h.0, ap₂ (λ (k : Header) (n : ℕ). record { header = k; payload = n }) h.1 p)
