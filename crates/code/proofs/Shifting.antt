-- The shifts of the register, place by place.
use Rattle.std.proofs.Common.{◌≡◌, ℕ, ◌+◌, ◌<◌, ◌≤◌, ◌⊎◌, List, length, get_or, set, refl, ap, ◌∙◌, ap₂, inl, inr, eq-or-lt_of_le, arith, get_or-set_other, get_or-set_same}
use native.Mathlib.Decide.{dec_lt}
use lib.Bits.{bit_xor, xor_lt}
use Rattle.polynomials.specs.Product.{times}
use Rattle.polynomials.proofs.Closed.{times_lt}
use Rattle.code.specs.Division.{tap, Register, Shifted}
use Rattle.code.proofs.TapProducts.{tap-none}

pub none-shifted : (old : List ℕ) (f : ℕ) → Shifted old f 0 old
none-shifted old f = record { step = λ j h. absurd (omega arith); after = λ j l. refl }

-- one place more
pub one_shifted : (old now : List ℕ) (f b y : ℕ) → Shifted old f b now → b < length now → y ≡ bit_xor (get_or now (b + 1) 0) (times f (tap b)) → Shifted old f (b + 1) (set now b y)
one_shifted old now f b y s within is = record { step = λ j h. go j (eq-or-lt_of_le (let q : j ≤ b = omega arith in q)); after = λ j l. get_or-set_other now b j y 0 (λ e. (omega arith)) ∙ s.after j (omega arith) }
  where
    here : get_or (set now b y) b 0 ≡ bit_xor (get_or old (b + 1) 0) (times f (tap b))
    here = get_or-set_same now b y 0 within ∙ is ∙ ap (λ x. bit_xor x (times f (tap b))) (s.after (b + 1) (omega arith))

    go : (j : ℕ) → (j ≡ b) ⊎ (j < b) → get_or (set now b y) j 0 ≡ bit_xor (get_or old (j + 1) 0) (times f (tap j))
    go j (inl e) = rw e here
    go j (inr h) = get_or-set_other now b j y 0 (λ e. (omega arith)) ∙ s.step j h

-- it stays a register, wherever the shift has come to
pub still_register : (old new : List ℕ) (f b : ℕ) → f < 1024 → Register old → length new ≡ 33 → Shifted old f b new → Register new
still_register old new f b h r size s = record { size = size; small = λ i. small i (dec_lt i b); behind = λ i l. behind i l (dec_lt i b) }
  where
    small : (i : ℕ) → Dec (i < b) → get_or new i 0 < 1024
    small i (yes l) = rw (s.step i l) (xor_lt 10 (get_or old (i + 1) 0) (times f (tap i)) (r.small (i + 1)) (times_lt f (tap i) h))
    small i (no l) = rw (s.after i (omega arith)) (r.small i)

    behind : (i : ℕ) → 30 ≤ i → Dec (i < b) → get_or new i 0 ≡ 0
    behind i q (yes l) = s.step i l ∙ ap₂ bit_xor (r.behind (i + 1) (omega arith)) (tap-none f i q)
    behind i q (no l) = s.after i (omega arith) ∙ r.behind i q
