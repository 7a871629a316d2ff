use Rattle.std.proofs.Common.{◌≡◌, ℕ, suc, ◌+◌, ◌*◌, ◌<◌, ◌≤◌, ◌^◌, None, Some, sym, ap, ◌∙◌, ap₂, add-one, pow-suc, arith, rules, length}
use Rattle.std.proofs.Math.Pow.{pow_mono}
use Rattle.std.proofs.lemmas.Bool.{lt-ltb, le-ltb}
use Rattle.bits.specs.Bits.{bit}
use Rattle.receiver.specs.Recent.{window, last_bits, bit_ago}
use Rattle.receiver.proofs.Windows.{no_bits, bits_more}
use Rattle.receiver.proofs.ring.Ring.window.Goals as goal

pub returns-then-len-lt-WINDOW : goal.returns-then-len-lt-WINDOW
unfolding window
returns-then-len-lt-WINDOW c = let l : length c.args.self.now < 120 = omega arith in rw (lt-ltb _ _ l)

pub returns : goal.returns
unfolding window
returns c =
    let l : 120 ≤ length c.args.self.now = omega arith in
    let n : c.loop-age.age ≡ 120 = omega arith in
    rw (le-ltb _ _ l) (ap Some (c.loop-age.invariant.0 ∙ ap (λ (k : ℕ). last_bits k c.args.self.now c.args.position) n))

pub loop-age-init : goal.loop-age-init
loop-age-init c = (sym (no_bits c.args.self.now c.args.position), omega arith)

pub overflow_mul-bits : goal.overflow_mul-bits
overflow_mul-bits c = let p = pow_mono {i = c.loop-age.age} {j = 119} (omega arith) in let b = c.loop-age.invariant.1 in omega arith

pub overflow_add-bits : goal.overflow_add-bits
overflow_add-bits c = let p = pow_mono {i = c.loop-age.age} {j = 119} (omega arith) in let b = c.loop-age.invariant.1 in let s : c.from.result < 2 = rw (c.from.ensures, c.bit_of.ensures) (omega arith) in omega arith

pub loop-age-preserved : goal.loop-age-preserved
loop-age-preserved c =
    let n : ℕ = c.loop-age.age in
    let i : ℕ = c.args.position in
    let b : c.from.result ≡ bit_ago c.args.self.now i n = c.from.ensures ∙ c.bit_of.ensures ∙ ap (λ (w : ℕ). bit w i) c.word.ensures in
    let small : c.from.result < 2 = rw b (omega arith) in
    let inv = c.loop-age.invariant.1 in
    let p : 2 ^ (n + 1) ≡ 2 ^ n * 2 = rw (add-one, pow-suc) (omega arith) in (
      ap₂ (λ (x y : ℕ). x * 2 + y) c.loop-age.invariant.0 b ∙ sym (bits_more n c.args.self.now i),
      rw p (omega arith),
    )
