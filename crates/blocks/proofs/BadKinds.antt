-- The first record whose kind is above 3.
use Rattle.std.proofs.Common.{◌≡◌, ℕ, ◌+◌, ◌*◌, ◌<◌, Bool, true, false, ltb, List, length, get_or, Some, None, Option, Bor, MatchOption, IfSome, Result, Ok, Err, is_err, IsSomeAnd, sym, ap, ◌∙◌, arith}
use Rattle.std.proofs.lemmas.Bool.{lt-ltb, le-ltb}
use Rattle.std.specs.Option.{option_map}
use Rattle.std.specs.Fn.{Called}
use Rattle.std.specs.Iterator.Runs.{Run, CallKeepsClosure, AllItemsGive, IsFirstToGive, IsStepByRun, ItemsMapTo}
use denote.Param.Members.{Mut}
use Rattle.blocks.specs.Blocks.{Decodes}
use Rattle.blocks.specs.declared.block.Header.{Header}
use Rattle.blocks.specs.declared.block.Header.TheVariants.{Zeros, Control, Data, Ones}
use Rattle.blocks.specs.declared.block.UnknownKind.{UnknownKind}
use Rattle.bits.proofs.Lowest.{lowest-found, lowest_none}
use Rattle.blocks.specs.Calls.{kind_above_3, begun, bad_kind}

-- every ninth byte of xs, of which the test f says whether it is above 3
module _ {S T F : Type 0} {steps : S → Option (Bor ℕ) → S → Type 0} {strides : T → Option (Bor ℕ) → T → Type 0} {g : Mut F (Bor ℕ × Unit {0}) Bool}
    (xs : List ℕ) (f : F) (tells : (x : Bor ℕ) (b : Bool) (e : F) → Called g f (x, tt) b e → (e ≡ f) × (b ≡ ltb 3 x.now))
    (p : Run strides) (q : Run steps) (strides_by : IsStepByRun p q 9) (reads : ItemsMapTo q (λ x. x.now) xs)
  where
    byte_at : (k : ℕ) (o : Option (Bor ℕ)) (b : Bool) → option_map (λ x. x.now) o ≡ Some (get_or xs (9 * k) 0) → IfSome o (λ x. Called g f (x, tt) b f) → kind_above_3 xs k ≡ b
    byte_at k None b e h = absurd (cc)
    byte_at k (Some x) b e h = let z : x.now ≡ get_or xs (9 * k) 0 = cc in let t = (tells x b f h).1 in cc

    if_there : (P : Bor ℕ → Type 0) (o : Option (Bor ℕ)) → IsSomeAnd o P → IfSome o P
    if_there P None h = absurd h
    if_there P (Some x) h = h

    keeps : CallKeepsClosure g f
    keeps a b e h = (tells a.0 b e h).0

    byte : (k : ℕ) → k * 9 < q.len → option_map (λ x. x.now) (p.at k) ≡ Some (get_or xs (9 * k) 0)
    byte k h =
        let e : k * 9 ≡ 9 * k = omega arith in
        ap (option_map (λ (x : Bor ℕ). x.now)) (strides_by.4 k) ∙ reads.2 (k * 9) 0 h ∙ ap (λ (j : ℕ). Some (get_or xs j 0)) e

    pub first_found : (r : Option ℕ) → MatchOption r ((p.whole ≡ true) × AllItemsGive p g f false) (λ i. (p.len ≡ i + 1) × IsFirstToGive p g f true false i) → r ≡ bad_kind xs
    unfolding bad_kind
    first_found None h =
        let n : q.len ≡ length xs = reads.1 (strides_by.0 ∙ h.0) in
        sym (lowest_none (kind_above_3 xs) (begun xs) (λ k l. byte_at k (p.at k) false (byte k (omega arith)) (h.1 keeps k)))
    first_found (Some i) h =
        let hit = h.1 keeps in
        let n : i * 9 < q.len = omega arith in
        let l : i < begun xs = omega arith in
        sym (lowest-found (kind_above_3 xs) i (begun xs) l
        (lowest_none (kind_above_3 xs) i (λ k m. byte_at k (p.at k) false (byte k (omega arith)) (if_there _ (p.at k) (hit.1 k m))))
        (byte_at i (p.at i) true (byte i n) (if_there _ (p.at i) hit.0)))

-- what a refused conversion says of the kind
pub unknown_is : (k : ℕ) (r : Result Header UnknownKind) → Decodes k r → is_err r ≡ ltb 3 k
unknown_is k (Ok Zeros) h = sym (le-ltb 3 k (omega arith))
unknown_is k (Ok Control) h = sym (le-ltb 3 k (omega arith))
unknown_is k (Ok Data) h = sym (le-ltb 3 k (omega arith))
unknown_is k (Ok Ones) h = sym (le-ltb 3 k (omega arith))
unknown_is k (Err e) h = sym (lt-ltb 3 k h.1)
