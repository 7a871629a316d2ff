-- An arm a place of the digit: parts in front of it, the part that loses it, and the payloads behind.
use Rattle.std.proofs.Common.{◌≡◌, ℕ, ◌+◌, ◌*◌, ◌^◌, ◌%◌, List, [], ◌∷◌, ◌++◌, length, get_or, sym, ap, ◌∙◌, rules, arith}
use Rattle.bits.specs.Bits.{field}
use Rattle.blocks.specs.Groups.{without, words}
use Rattle.blocks.proofs.Parts.{four_of, leaves_out, carries, flags_ahead}
use Rattle.blocks.proofs.group.without_digit.Goals as goal

-- four bits of the word in front
abbrev front : ℕ → List ℕ
front before = field before 60 4

-- the flags stand in front of the four
flags_first : (flags at p : ℕ) (ps out : List ℕ) → length ps ≡ 4 → 64 * at + 4 ≡ p →
    out ≡ front (flags * 2 ^ 60 % 2 ^ 64) ++ without p (words (get_or ps 0 0 ∷ get_or ps 1 0 ∷ get_or ps 2 0 ∷ get_or ps 3 0 ∷ [])) → out ≡ field flags 0 4 ++ without (64 * at + 4) (words ps)
flags_first flags at p ps out n e h =
    rw e
    (h ∙ ap (λ (l : List ℕ). front (flags * 2 ^ 60 % 2 ^ 64) ++ without p (words l)) (sym (four_of 0 ps n))
    ∙ ap (λ (fs : List ℕ). fs ++ without p (words ps)) (flags_ahead flags))

pub returns-in-0 : goal.returns-in-0
returns-in-0 c =
    let ps = c.args.payloads in
    let a : ℕ = get_or ps 0 0 in
    let x : ℕ = get_or ps 1 0 in
    let y : ℕ = get_or ps 2 0 in
    let z : ℕ = get_or ps 3 0 in
    let f : ℕ = c.args.flags * 2 ^ 60 % 2 ^ 64 in
    flags_first c.args.flags c.args.at 4 ps _ (search rules) (omega arith) (leaves_out (front f) a c.shortened.result (words (x ∷ y ∷ z ∷ [])) c.shortened.ensures)

pub returns-in-1 : goal.returns-in-1
returns-in-1 c =
    let ps = c.args.payloads in
    let a : ℕ = get_or ps 0 0 in
    let x : ℕ = get_or ps 1 0 in
    let y : ℕ = get_or ps 2 0 in
    let z : ℕ = get_or ps 3 0 in
    let f : ℕ = c.args.flags * 2 ^ 60 % 2 ^ 64 in
    flags_first c.args.flags c.args.at 68 ps _ (search rules) (omega arith)
    (carries (front f) a c.carried.result 4 (words (x ∷ y ∷ z ∷ [])) _ c.carried.ensures
    (leaves_out (front a) x c.shortened-in-1.result (words (y ∷ z ∷ [])) c.shortened-in-1.ensures))

pub returns-in-2 : goal.returns-in-2
returns-in-2 c =
    let ps = c.args.payloads in
    let a : ℕ = get_or ps 0 0 in
    let x : ℕ = get_or ps 1 0 in
    let y : ℕ = get_or ps 2 0 in
    let z : ℕ = get_or ps 3 0 in
    let f : ℕ = c.args.flags * 2 ^ 60 % 2 ^ 64 in
    flags_first c.args.flags c.args.at 132 ps _ (search rules) (omega arith)
    (carries (front f) a c.carried-in-2.result 68 (words (x ∷ y ∷ z ∷ [])) _ c.carried-in-2.ensures
    (carries (front a) x c.carried-in-2-2.result 4 (words (y ∷ z ∷ [])) _ c.carried-in-2-2.ensures
    (leaves_out (front x) y c.shortened-in-2.result (words (z ∷ [])) c.shortened-in-2.ensures)))

pub returns-in_default : goal.returns-in_default
returns-in_default c =
    let ps = c.args.payloads in
    let a : ℕ = get_or ps 0 0 in
    let x : ℕ = get_or ps 1 0 in
    let y : ℕ = get_or ps 2 0 in
    let z : ℕ = get_or ps 3 0 in
    let f : ℕ = c.args.flags * 2 ^ 60 % 2 ^ 64 in
    flags_first c.args.flags c.args.at 196 ps _ (search rules) (omega arith)
    (carries (front f) a c.carried-in_default.result 132 (words (x ∷ y ∷ z ∷ [])) _ c.carried-in_default.ensures
    (carries (front a) x c.carried-in_default-2.result 68 (words (y ∷ z ∷ [])) _ c.carried-in_default-2.ensures
    (carries (front x) y c.carried-in_default-3.result 4 (words (z ∷ [])) _ c.carried-in_default-3.ensures
    (leaves_out (front y) z c.shortened-in_default.result (words ([])) c.shortened-in_default.ensures))))
