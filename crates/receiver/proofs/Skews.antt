-- The largest and the smallest skew, of one position more.
use Rattle.std.proofs.Common.{◌≡◌, ℕ, ◌+◌, ◌<◌, List, map, length, get_or, take, fold, pos, sym, ap, ◌∙◌, arith}
use Rattle.std.specs.Int.{int_max, int_min}
use Rattle.std.proofs.Math.IntN.{ℤ}
use Rattle.std.proofs.lemmas.List.{take-map, get_or-map, length-map}
use Rattle.std.proofs.lemmas.List.Sums.{fold_more}

pub more_mapped : {A : Type 0} (g : ℤ → ℤ → ℤ) (z : ℤ) (f : A → ℤ) (xs : List A) (i : ℕ) (d : A) → i < length xs → fold g z (map f (take (i + 1) xs)) ≡ g (fold g z (map f (take i xs))) (f (get_or xs i d))
more_mapped g z f xs i d h =
    ap (fold g z) (sym (take-map f (i + 1) xs))
    ∙ fold_more g z (map f xs) i (f d) (omega (arith, length-map xs f))
    ∙ ap (λ (s : List ℤ). g (fold g z s) (get_or (map f xs) i (f d))) (take-map f i xs)
    ∙ ap (g (fold g z (map f (take i xs)))) (get_or-map f xs i d (f d) h)
