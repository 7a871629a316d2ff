-- What is answered on arrays, on the octets that they came from.
use Rattle.std.proofs.Common.{◌≡◌, ℕ, List, Result, Ok, Err, IsErrAnd, refl, ap}
use Rattle.std.specs.Result.{result_map_both, result_unwrap_or}
use Rattle.code.specs.declared.refusal.Refusal.{Refusal}
use Rattle.host.specs.Crossing.{symbol_octets}
use Rattle.host.specs.Replies.{word_left}

abbrev done : Result (List ℕ) Refusal → Result (Unit {0}) Refusal
done r = result_map_both (λ c. tt) (λ e. e) r

-- a refusal handed on by `?`
pub handed_on : (r : Result (Unit {0}) Refusal) (e : Refusal) → IsErrAnd r (λ x. x ≡ e) → r ≡ Err e
handed_on (Ok u) e h = absurd h
handed_on (Err x) e h = ap Err h

-- a word that is refused stays
pub left_by_err : (r : Result (List ℕ) Refusal) (e : Refusal) (before : List ℕ) → done r ≡ Err e → before ≡ word_left r before
left_by_err (Ok c) e before h = absurd (cc)
left_by_err (Err x) e before h = refl

-- and one that is taken is the codeword
pub left_by_ok : (r : Result (List ℕ) Refusal) (w before : List ℕ) → done r ≡ Ok tt → symbol_octets (result_unwrap_or r w) ≡ word_left r before
left_by_ok (Ok c) w before h = refl
left_by_ok (Err x) w before h = absurd (cc)
