-- The cases worked out by hand, by computation.
use Rattle.std.proofs.Common.{refl}
use Rattle.bits.specs.Bits.{field, number, octet_bits, table}
use Rattle.blocks.specs.Groups.{group_bits, read_back, flags_back, control_back, high_digit, types}
use Rattle.blocks.specs.Scrambled.{stream_bits}
use Rattle.polynomials.specs.Product.{times, product, step}
use Rattle.lanes.specs.Markers.{wrong, symbol_in, marker_bits, marker_at}
use Rattle.lanes.specs.Pads.{pad_before}
use Rattle.sender.specs.HandCases.{HandChecked}

pub hand_checked : HandChecked
unfolding field number octet_bits table group_bits read_back flags_back control_back high_digit types stream_bits times product step wrong pad_before symbol_in marker_bits marker_at
hand_checked = (refl, (refl, (refl, (refl, (refl, (refl, (refl, (refl, (refl, (refl, (refl, tt)))))))))))
