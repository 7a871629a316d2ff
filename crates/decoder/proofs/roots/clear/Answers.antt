use Rattle.std.proofs.Common.{◌≡◌, ℕ, zero, suc, ◌<◌, List, [], ◌∷◌, length, get_or, rules, arith}
use Rattle.std.specs.List.{FoldsTo}
use Rattle.decoder.proofs.roots.clear.Goals as goal

each_made : {P A : Type 0} (R : P → A → P → Type 0) (z : A) → ((p : P) (x : A) (q : P) → R p x q → x ≡ z) → (xs : List A) (p q : P) → FoldsTo R p xs q → (k : ℕ) → k < length xs → get_or xs k z ≡ z
each_made R z h [] p q f k l = absurd (omega arith)
each_made R z h (x ∷ xs) p q f zero l = h p x f.0 f.1
each_made R z h (x ∷ xs) p q f (suc k) l = each_made R z h xs f.0 q f.2 k (omega arith)

pub returns : goal.returns
returns g c = λ k l. each_made _ g.F.Adds.group.zero (λ p x q r. search rules) c.fill_with.new.self _ _ c.fill_with.ensures.ran.1 k (omega arith)
