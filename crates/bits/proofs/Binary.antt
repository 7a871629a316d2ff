-- Lists of 0 and 1.
use Rattle.std.proofs.Common.{ℕ, zero, suc, ◌<◌, List, [], ◌∷◌, ◌++◌, take, drop, arith}
use Rattle.bits.specs.Bits.{bit, field, Binary}

pub binary_none : Binary []
binary_none i = omega arith

pub binary_cons : (x : ℕ) (xs : List ℕ) → x < 2 → Binary xs → Binary (x ∷ xs)
binary_cons x xs h b zero = h
binary_cons x xs h b (suc i) = b i

pub binary_append : (xs ys : List ℕ) → Binary xs → Binary ys → Binary (xs ++ ys)
binary_append [] ys a b i = b i
binary_append (x ∷ xs) ys a b zero = a 0
binary_append (x ∷ xs) ys a b (suc i) = binary_append xs ys (λ j. a (suc j)) b i

pub binary_drop : (n : ℕ) (xs : List ℕ) → Binary xs → Binary (drop n xs)
binary_drop zero xs b = b
binary_drop (suc n) [] b = b
binary_drop (suc n) (x ∷ xs) b = binary_drop n xs (λ j. b (suc j))

pub binary_take : (n : ℕ) (xs : List ℕ) → Binary xs → Binary (take n xs)
binary_take zero xs b = binary_none
binary_take (suc n) [] b = b
binary_take (suc n) (x ∷ xs) b = binary_cons x (take n xs) (b 0) (binary_take n xs (λ j. b (suc j)))

pub binary_field : (x i n : ℕ) → Binary (field x i n)
unfolding field
binary_field x i zero = binary_none
binary_field x i (suc n) = binary_cons (bit x i) (field x (suc i) n) (omega arith) (binary_field x (suc i) n)
