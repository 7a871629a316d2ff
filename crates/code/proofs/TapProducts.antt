-- The tables hold the products of the elements and the taps, and the two parts of an element add up.
use Rattle.std.proofs.Common.{◌≡◌, ℕ, ◌-◌, ◌*◌, ◌/◌, ◌%◌, ◌<◌, ◌≤◌, Bool, cond, T, eqb, List, [], get_or, sym, ap, ap₂, ◌∙◌, arith, eqb→eq, le-ltb}
use lib.Bits.{bit_xor, xor_comm, xor_shifted}
use Rattle.polynomials.specs.Product.{step, product, times}
use Rattle.polynomials.proofs.Products.{times_sum_left, times_sum_right}
use Rattle.polynomials.proofs.Linear.{at_zero}
use Rattle.bits.specs.Every.{every}
use Rattle.bits.proofs.Every.{passes_at}
use Rattle.code.specs.Code.{generator}
use Rattle.code.specs.Division.{tap}
use Rattle.code.specs.declared.products.TheConstants.{LOW, HIGH}
use Rattle.code.proofs.Generator.{coefficient, coefficient_is}

-- what stands at the place p of the row of a
abbrev pub entry : List (List ℕ) → ℕ → ℕ → ℕ
entry rows a p = get_or (get_or rows a []) p 0

-- each entry is the product of f a and a tap
fits : List (List ℕ) → (ℕ → ℕ) → ℕ → ℕ → Bool
fits rows f a p = eqb (entry rows a p) (times (f a) (coefficient p))

all_fit : List (List ℕ) → (ℕ → ℕ) → Bool
all_fit rows f = every (λ a. every (fits rows f a) 32) 32

fit_at : (rows : List (List ℕ)) (f : ℕ → ℕ) → T (all_fit rows f) → (a p : ℕ) → a < 32 → p < 32 → entry rows a p ≡ times (f a) (tap p)
unfolding all_fit fits
fit_at rows f t a p ha hp =
    eqb→eq (entry rows a p) (times (f a) (coefficient p)) (passes_at (fits rows f a) 32 (passes_at (λ a. every (fits rows f a) 32) 32 t a ha) p hp) ∙ ap (times (f a)) (coefficient_is p)

lows_fit : T (all_fit LOW (λ a. a))
unfolding all_fit fits coefficient times product step
lows_fit = tt

highs_fit : T (all_fit HIGH (λ b. b * 32))
unfolding all_fit fits coefficient times product step
highs_fit = tt

-- an element is the sum of its lower five bits and its upper ones, and so are its products
pub product_at : (a p : ℕ) → a < 1024 → p < 32 → bit_xor (entry LOW (a % 32) p) (entry HIGH (a / 32) p) ≡ times a (tap p)
product_at a p ha hp =
    ap₂ bit_xor (fit_at LOW (λ a. a) lows_fit (a % 32) p (omega arith) hp) (fit_at HIGH (λ b. b * 32) highs_fit (a / 32) p (omega arith) hp)
    ∙ sym (times_sum_left (tap p) (a % 32) (a / 32 * 32))
    ∙ ap (λ y. times y (tap p)) joined
  where
    joined : bit_xor (a % 32) (a / 32 * 32) ≡ a
    joined = xor_comm (a % 32) (a / 32 * 32) ∙ xor_shifted (a / 32) 5 (a % 32) (omega arith) ∙ omega arith

-- no tap stands behind the thirtieth
pub tap-none : (f j : ℕ) → 30 ≤ j → times f (tap j) ≡ 0
unfolding tap
tap-none f j l = ap (λ (b : Bool). times f (cond b (get_or (generator 30) (29 - j) 0) 0)) (le-ltb j 30 l) ∙ at_zero (times f) (times_sum_right f)
