-- The last bits of a position, one bit more.
use Rattle.std.proofs.Common.{◌≡◌, ℕ, suc, ◌+◌, ◌-◌, ◌*◌, ◌^◌, ◌<◌, List, refl, ap, ◌∙◌, ap₂, add-one, pow-suc, arith, lit<}
use Rattle.bits.specs.Bits.{bit, number, table, nth}
use Rattle.bits.proofs.Tables.{table_same}
use Rattle.receiver.specs.Recent.{bit_ago, last_bits}

pub no_bits : (recent : List ℕ) (i : ℕ) → last_bits 0 recent i ≡ 0
unfolding last_bits table number
no_bits recent i = refl

pub bits_more : (n : ℕ) (recent : List ℕ) (i : ℕ) → last_bits (n + 1) recent i ≡ last_bits n recent i * 2 + bit_ago recent i n
unfolding last_bits table number
bits_more n recent i =
    let same : table n (λ k. bit_ago recent i (suc n - 1 - suc k)) ≡ table n (λ k. bit_ago recent i (n - 1 - k)) =
    table_same n _ _ (λ k l. ap (bit_ago recent i) (omega arith)) in
    let here : suc n - 1 - 0 ≡ n = omega arith in
    rw add-one (ap₂ (λ (b : ℕ) (bs : List ℕ). b + 2 * number bs) (ap (bit_ago recent i) here) same ∙ omega arith)
