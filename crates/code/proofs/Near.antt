-- The codeword near a word, as its definition searches for it.
use Rattle.std.proofs.Common.{◌≡◌, ℕ, ◌≤◌, Bool, ◌&&◌, leb, List, Some, None, arith}
use Rattle.std.proofs.lemmas.Bool.{both_ways, and_from, and_parts, leb-true, le-leb}
use Rattle.code.specs.Code.{Codeword, zero_at, codeword_near, distance}
use Rattle.code.proofs.Lists.{first_some, first_none}
use Rattle.code.proofs.Named.{all_small, zero_at_true, zero_at_roots}

abbrev test : ℕ → List ℕ → List ℕ → Bool
test reach w c = zero_at c 30 && leb (distance w c) reach

pub near_some : (reach : ℕ) (w c : List ℕ) → codeword_near reach w ≡ Some c → Codeword c × (distance w c ≤ reach)
unfolding codeword_near
near_some reach w c e =
    let t = first_some 544 (test reach w) c e in
    let p = and_parts (zero_at c 30) (leb (distance w c) reach) t.0 in
    (record { formed = record { size = t.1; symbols = λ i l. t.2 i }; roots = zero_at_roots c 30 p.0 }, leb-true (distance w c) reach p.1)

pub near_none : (reach : ℕ) (w : List ℕ) → codeword_near reach w ≡ None → (c : List ℕ) → Codeword c → distance w c ≤ reach → ⊥
unfolding codeword_near
near_none reach w e c code near =
    both_ways (test reach w c)
    (first_none 544 (test reach w) e c code.formed.size (all_small c (λ i l. code.formed.symbols i (let s = code.formed.size in omega arith))))
    (and_from (zero_at c 30) (leb (distance w c) reach) (zero_at_true c 30 code.roots) (le-leb (distance w c) reach near))
