-- The laws of the product of numbers below 1,024. Each respects sums, so it is enough to test it at the powers of two.
use Rattle.std.specs.Prelude.{◌≡◌, ℕ, zero, suc, ◌+◌, ◌-◌, ◌^◌, ◌<◌, ◌≤◌, Bool, T, ◌==◌, refl}
use Rattle.std.proofs.Common.{sym, ◌∙◌, ap, arith, eqb→eq, lit<}
use Rattle.polynomials.specs.Product.{step, product, times, squares, inverse, shifted}
use Rattle.polynomials.proofs.Closed.{step_lt, inverse_lt}
use Rattle.polynomials.proofs.Linear.{agree, Additive}
use Rattle.polynomials.proofs.Bilinear.{step_sum, product_sum_left, product_sum_right}
use Rattle.polynomials.proofs.Order.{shifted_add, whole}
use Rattle.bits.specs.Every.{every}
use Rattle.bits.proofs.Every.{passes_at}

pub times_sum_left : (c : ℕ) → Additive (λ a. times a c)
unfolding times
times_sum_left c = product_sum_left 9 1033 10 c

pub times_sum_right : (a : ℕ) → Additive (times a)
unfolding times
times_sum_right a = product_sum_right 9 1033 10 a

-- a test of each pair of powers below n
pairs : (ℕ → ℕ → Bool) → ℕ → Bool
pairs f n = every (λ i. every (λ j. f (2 ^ i) (2 ^ j)) n) n

pairs_at : (f : ℕ → ℕ → Bool) (n : ℕ) → T (pairs f n) → (i j : ℕ) → i < n → j < n → T (f (2 ^ i) (2 ^ j))
unfolding pairs
pairs_at f n t i j h k = passes_at (λ j. f (2 ^ i) (2 ^ j)) n (passes_at (λ i. every (λ j. f (2 ^ i) (2 ^ j)) n) n t i h) j k

commutes : ℕ → ℕ → Bool
commutes a b = times a b == times b a

all_commute : T (pairs commutes 10)
unfolding pairs commutes times product step
all_commute = tt

commute_at : (i j : ℕ) → i < 10 → j < 10 → times (2 ^ i) (2 ^ j) ≡ times (2 ^ j) (2 ^ i)
unfolding commutes
commute_at i j h k = eqb→eq (times (2 ^ i) (2 ^ j)) (times (2 ^ j) (2 ^ i)) (pairs_at commutes 10 all_commute i j h k)

pub times_comm : (a b : ℕ) → a < 1024 → b < 1024 → times a b ≡ times b a
times_comm a b h k =
    agree (λ x. times x b) (times b) (times_sum_left b) (times_sum_right b) 10
    (λ i l. agree (times (2 ^ i)) (λ y. times y (2 ^ i)) (times_sum_right (2 ^ i)) (times_sum_left (2 ^ i)) 10 (λ j m. commute_at i j l m) b k)
    a h

ones : ℕ → Bool
ones i = times 1 (2 ^ i) == 2 ^ i

all_ones : T (every ones 10)
unfolding ones times product step
all_ones = tt

pub one_times : (a : ℕ) → a < 1024 → times 1 a ≡ a
unfolding ones
one_times a h = agree (times 1) (λ x. x) (times_sum_right 1) (λ x y. refl) 10 (λ i l. eqb→eq (times 1 (2 ^ i)) (2 ^ i) (passes_at ones 10 all_ones i l)) a h

associates : ℕ → ℕ → ℕ → Bool
associates a b c = times (times a b) c == times a (times b c)

triples : ℕ → Bool
triples i = pairs (associates (2 ^ i)) 10

all_associate : T (every triples 10)
unfolding triples pairs associates times product step
all_associate = tt

associate_at : (i j k : ℕ) → i < 10 → j < 10 → k < 10 → times (times (2 ^ i) (2 ^ j)) (2 ^ k) ≡ times (2 ^ i) (times (2 ^ j) (2 ^ k))
unfolding associates triples
associate_at i j k h l m =
    eqb→eq (times (times (2 ^ i) (2 ^ j)) (2 ^ k)) (times (2 ^ i) (times (2 ^ j) (2 ^ k)))
    (pairs_at (associates (2 ^ i)) 10 (passes_at triples 10 all_associate i h) j k l m)

both_sums : (f g : ℕ → ℕ) → Additive f → Additive g → Additive (λ x. f (g x))
both_sums f g hf hg x y = ap f (hg x y) ∙ hf (g x) (g y)

pub times_assoc : (a b c : ℕ) → a < 1024 → b < 1024 → c < 1024 → times (times a b) c ≡ times a (times b c)
times_assoc a b c h k l =
    agree (λ x. times (times x b) c) (λ x. times x (times b c)) (both_sums (λ x. times x c) (λ x. times x b) (times_sum_left c) (times_sum_left b)) (times_sum_left (times b c)) 10
    (λ i p.
    agree (λ y. times (times (2 ^ i) y) c) (λ y. times (2 ^ i) (times y c))
    (both_sums (λ x. times x c) (times (2 ^ i)) (times_sum_left c) (times_sum_right (2 ^ i)))
    (both_sums (times (2 ^ i)) (λ y. times y c) (times_sum_right (2 ^ i)) (times_sum_left c)) 10
    (λ j q.
    agree (times (times (2 ^ i) (2 ^ j))) (λ z. times (2 ^ i) (times (2 ^ j) z))
    (times_sum_right (times (2 ^ i) (2 ^ j)))
    (both_sums (times (2 ^ i)) (times (2 ^ j)) (times_sum_right (2 ^ i)) (times_sum_right (2 ^ j))) 10
    (λ r s. associate_at i j r p q s) c l)
    b k)
    a h

inverts : ℕ → Bool
inverts a = times (suc a) (inverse (suc a)) == 1

all_invert : T (every inverts 1023)
unfolding inverts inverse squares times product step
all_invert = tt

pub times_inverse : (a : ℕ) → 0 < a → a < 1024 → times a (inverse a) ≡ 1
unfolding inverts
times_inverse zero l h = absurd (omega arith)
times_inverse (suc a) l h = eqb→eq (times (suc a) (inverse (suc a))) 1 (passes_at inverts 1023 all_invert a (omega arith))

moves : ℕ → ℕ → Bool
moves a b = times (step 9 1033 a) b == step 9 1033 (times a b)

all_move : T (pairs moves 10)
unfolding pairs moves times product step
all_move = tt

pub step_times : (a b : ℕ) → a < 1024 → b < 1024 → times (step 9 1033 a) b ≡ step 9 1033 (times a b)
unfolding moves
step_times a b h k =
    agree (λ x. times (step 9 1033 x) b) (λ x. step 9 1033 (times x b))
    (both_sums (λ x. times x b) (step 9 1033) (times_sum_left b) (step_sum 9 1033))
    (both_sums (step 9 1033) (λ x. times x b) (step_sum 9 1033) (times_sum_left b)) 10
    (λ i p.
    agree (λ y. times (step 9 1033 (2 ^ i)) y) (λ y. step 9 1033 (times (2 ^ i) y))
    (times_sum_right (step 9 1033 (2 ^ i)))
    (both_sums (step 9 1033) (times (2 ^ i)) (step_sum 9 1033) (times_sum_right (2 ^ i))) 10
    (λ j q. eqb→eq (times (step 9 1033 (2 ^ i)) (2 ^ j)) (step 9 1033 (times (2 ^ i) (2 ^ j))) (pairs_at moves 10 all_move i j p q)) b k)
    a h

pub shifted_lt : (n a : ℕ) → a < 1024 → shifted n a < 1024
shifted_lt zero a h = h
shifted_lt (suc n) a h = shifted_lt n (step 9 1033 a) (step_lt a h)

pub shifted_times : (n a b : ℕ) → a < 1024 → b < 1024 → times (shifted n a) b ≡ shifted n (times a b)
shifted_times zero a b h k = refl
shifted_times (suc n) a b h k = shifted_times n (step 9 1033 a) b (step_lt a h) k ∙ ap (shifted n) (step_times a b h k)

pub times_powers : (i j : ℕ) → times (shifted i 1) (shifted j 1) ≡ shifted (j + i) 1
times_powers i j =
    shifted_times i 1 (shifted j 1) (lit< tt) (shifted_lt j 1 (lit< tt)) ∙ ap (shifted i) (one_times (shifted j 1) (shifted_lt j 1 (lit< tt))) ∙ sym (shifted_add j i 1)

pub times_powers_over : (i j : ℕ) → 1023 ≤ j + i → times (shifted i 1) (shifted j 1) ≡ shifted (j + i - 1023) 1
times_powers_over i j h =
    times_powers i j ∙ ap (λ n. shifted n 1) (let e : j + i ≡ 1023 + (j + i - 1023) = omega arith in e) ∙ shifted_add 1023 (j + i - 1023) 1 ∙ ap (shifted (j + i - 1023)) whole

twice_at : ℕ → Bool
twice_at i = times 2 (2 ^ i) == step 9 1033 (2 ^ i)

all_twice : T (every twice_at 10)
unfolding twice_at times product step
all_twice = tt

pub times_two : (a : ℕ) → a < 1024 → times 2 a ≡ step 9 1033 a
unfolding twice_at
times_two a h = agree (times 2) (step 9 1033) (times_sum_right 2) (step_sum 9 1033) 10 (λ i l. eqb→eq (times 2 (2 ^ i)) (step 9 1033 (2 ^ i)) (passes_at twice_at 10 all_twice i l)) a h

pub shifted_suc : (n a : ℕ) → shifted (suc n) a ≡ step 9 1033 (shifted n a)
shifted_suc zero a = refl
shifted_suc (suc n) a = shifted_suc n (step 9 1033 a)

-- there is one inverse only
pub inverse_is : (a b : ℕ) → 0 < a → a < 1024 → b < 1024 → times a b ≡ 1 → b ≡ inverse a
inverse_is a b p h k e =
    sym (one_times b k) ∙ times_comm 1 b (lit< tt) k ∙ ap (times b) (sym (times_inverse a p h)) ∙ sym (times_assoc b a (inverse a) k h (inverse_lt a h))
    ∙ ap (λ x. times x (inverse a)) (times_comm b a k h ∙ e) ∙ one_times (inverse a) (inverse_lt a h)

pub inverse_zero : inverse 0 ≡ 0
unfolding inverse squares times product step
inverse_zero = refl
