-- Every message has its codeword: the register that takes in the message gives the symbols behind it.
use Rattle.std.proofs.Common.{◌≡◌, ℕ, zero, suc, ◌+◌, ◌<◌, ◌≤◌, List, ◌++◌, length, get_or, take, set, replicate, refl, ◌∙◌, subst, add-one, arith}
use lib.Bits.{bit_xor}
use Rattle.std.proofs.lemmas.List.{length-set, get_or-replicate}
use Rattle.polynomials.specs.Product.{times}
use Rattle.code.specs.Laws.{Encoded, EachEncodes}
use Rattle.code.proofs.Named.{named}
use Rattle.code.specs.Division.{tap, Shifted, Remainder}
use Rattle.code.proofs.Division.{remainder_none, remainder_next, encoded}
use Rattle.code.proofs.Shifting.{none-shifted, one_shifted}

-- the first b places are shifted, with the feedback f
shifted : List ℕ → ℕ → ℕ → List ℕ
shifted old f zero = old
shifted old f (suc b) = let now = shifted old f b in set now b (bit_xor (get_or now (b + 1) 0) (times f (tap b)))

shifted-length : (old : List ℕ) (f b : ℕ) → length (shifted old f b) ≡ length old
unfolding shifted
shifted-length old f zero = refl
shifted-length old f (suc b) = length-set (shifted old f b) b (bit_xor (get_or (shifted old f b) (b + 1) 0) (times f (tap b))) ∙ shifted-length old f b

shifted_is : (old : List ℕ) (f b : ℕ) → b ≤ length old → Shifted old f b (shifted old f b)
unfolding shifted
shifted_is old f zero l = none-shifted old f
shifted_is old f (suc b) l =
    let now : List ℕ = shifted old f b in
    let y : ℕ = bit_xor (get_or now (b + 1) 0) (times f (tap b)) in
    subst (λ n. Shifted old f n (set now b y)) (add-one b)
    (one_shifted old now f b y (shifted_is old f b (omega arith)) (let e = shifted-length old f b in omega arith) refl)

-- the register after n symbols of the message
register : List ℕ → ℕ → List ℕ
register m zero = replicate 33 0
register m (suc n) = let old = register m n in shifted old (bit_xor (get_or m n 0) (get_or old 0 0)) 32

register_is : (m : List ℕ) → ((i : ℕ) → i < 514 → get_or m i 0 < 1024) → (n : ℕ) → n ≤ 514 → Remainder m n (register m n)
unfolding register
register_is m small zero l = remainder_none m (replicate 33 0) refl (λ i h. get_or-replicate 33 i 0 0 h)
register_is m small (suc n) l =
    let old : List ℕ = register m n in
    let f : ℕ = bit_xor (get_or m n 0) (get_or old 0 0) in
    let r : Remainder m n old = register_is m small n (omega arith) in
    let size : length old ≡ 33 = r.register.size in
    subst (λ k. Remainder m k (shifted old f 32)) (add-one n)
    (remainder_next m n old (shifted old f 32) (small n (omega arith)) (shifted-length old f 32 ∙ size) r (shifted_is old f 32 (omega arith)))

pub each_encodes : EachEncodes
each_encodes m size small =
    let r = register m 514 in
    let e : Encoded m (m ++ take 30 r) = encoded m r (m ++ take 30 r) size small (register_is m small 514 (omega arith)) refl in
    subst (λ w. Encoded m w) (named m _ e.codeword e.begins e.only) e
