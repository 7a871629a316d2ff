-- An array made by calls of a closure that no call changes.
use Rattle.std.proofs.Common.{◌≡◌, ℕ, zero, suc, ◌+◌, ◌<◌, List, slice_index_or, subst, add-zero, arith}
use Rattle.std.specs.Fn.{Mut, Called}
use Rattle.std.specs.Array.{IsFromFnResultFrom}

-- what holds of the answer of each call holds of each element
pub each_call : {F B : Type 0} (g : Mut F (ℕ × Unit {0}) B) (f : F) (R : ℕ → B → Type 0) → ((i : ℕ) (y : B) (q : F) → Called g f (i, tt) y q → (q ≡ f) × R i y)
    → (ys : List B) (i n : ℕ) → IsFromFnResultFrom g f ys i n → (k : ℕ) (d : B) → k < n → R (i + k) (slice_index_or ys (i + k) d)
each_call g f R h ys i zero a k d l = absurd (omega arith)
each_call g f R h ys i (suc n) a zero d l = rw (add-zero i, a.2.1 d) (h i a.1 a.0 a.3).1
each_call g f R h ys i (suc n) a (suc k) d l =
    let e : i + 1 + k ≡ i + suc k = omega arith in
    let rest = subst (λ s. IsFromFnResultFrom g s ys (i + 1) n) (h i a.1 a.0 a.3).0 a.4 in
    subst (λ m. R m (slice_index_or ys m d)) e (each_call g f R h ys (i + 1) n rest k d (omega arith))
