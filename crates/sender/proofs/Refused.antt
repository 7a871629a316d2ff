-- When a send is refused.
use Rattle.std.proofs.Common.{◌≡◌, ℕ, ◌*◌, ◌<◌, ◌≤◌, false, eqb, ltb, List, ◌++◌, length, drop, is_some, Some, None, Option, refl, inl, inr, arith}
use Rattle.std.specs.Option.{option_map}
use Rattle.std.proofs.lemmas.Bool.{cases_Bool, lt-ltb, le-ltb, ltb-false, eq-eqb, ne_eqb, eqb-true}
use Rattle.blocks.specs.Calls.{bad_kind}
use Rattle.blocks.specs.declared.refusal.Refusal.TheVariants.{Length, Kind}
use Rattle.lanes.specs.Rates.{Layout}
use Rattle.sender.specs.States.{SenderState, groups_of, blocks_of, pair_message, state_after, records_refused, send_refused, sent_strip, sent_state}
use Rattle.pairs.specs.Strips.{strip_of}
use Rattle.sender.specs.declared.refusal.Refusal.{Refusal}
use Rattle.sender.specs.declared.refusal.Refusal.TheVariants.{Buffer, Blocks}

module _ (groups : ℕ) (records : List ℕ) where
  pub wrong_count : (length records ≡ 36 * groups → ⊥) → records_refused groups records ≡ Some (Blocks Length)
  unfolding records_refused
  wrong_count k = rw (ne_eqb (length records) (36 * groups) k) refl

  pub by_kind : length records ≡ 36 * groups → (o : Option ℕ) → o ≡ bad_kind records → records_refused groups records ≡ option_map (λ i. Blocks (Kind i)) o
  unfolding records_refused
  by_kind k o e = rw (eq-eqb (length records) (36 * groups) k, e) refl

  module _ (room : ℕ) where
    pub no_room : room < 1360 → send_refused groups records room ≡ Some Buffer
    unfolding send_refused
    no_room h = rw (lt-ltb room 1360 h) refl

    pub with_room : 1360 ≤ room → send_refused groups records room ≡ records_refused groups records
    unfolding send_refused
    with_room h = rw (le-ltb room 1360 h) refl

    -- a send that is not refused
    pub record Accepted : Type 0 where
      pub room_enough : 1360 ≤ room
      pub count : length records ≡ 36 * groups
      pub kinds : bad_kind records ≡ None

    no_kind : (o : Option ℕ) → option_map (λ (i : ℕ). Blocks (Kind i)) o ≡ None → o ≡ None
    no_kind None e = refl
    no_kind (Some i) e = let z : ◌≡◌ {A = ℕ} 0 1 = cc in absurd (omega arith)

    pub accepted : send_refused groups records room ≡ None → Accepted
    unfolding send_refused records_refused
    accepted h = elim (cases_Bool (ltb room 1360)) [
      | inl e ↦ let k = rw e at h in let z : ◌≡◌ {A = ℕ} 0 1 = cc in absurd (omega arith)
      | inr e ↦ elim (cases_Bool (eqb (length records) (36 * groups))) [
        | inl f ↦ record { room_enough = ltb-false _ _ e; count = eqb-true _ _ f; kinds = no_kind (bad_kind records) (rw (e, f) at h) }
        | inr f ↦ let k = rw (e, f) at h in let z : ◌≡◌ {A = ℕ} 0 1 = cc in absurd (omega arith)
      ]
    ]

    none_if : (o : Option Refusal) → is_some o ≡ false → o ≡ None
    none_if None h = refl
    none_if (Some e) h = let z : ◌≡◌ {A = ℕ} 0 1 = cc in absurd (omega arith)

    pub not_refused : is_some (send_refused groups records room) ≡ false → Accepted
    not_refused h = accepted (none_if _ h)

-- what a send leaves
module _ (r : Layout) (s : SenderState) (records : List ℕ) where
  pub strip_stays : (strip : List ℕ) (e : Refusal) → send_refused (groups_of r.lanes s) records (length strip) ≡ Some e → strip ≡ sent_strip r s records strip
  unfolding sent_strip
  strip_stays strip e h = rw h refl

  pub strip_sent : (strip : List ℕ) → send_refused (groups_of r.lanes s) records (length strip) ≡ None →
      strip_of r.lanes (pair_message r s (blocks_of (groups_of r.lanes s) records)) ++ drop 1360 strip ≡ sent_strip r s records strip
  unfolding sent_strip
  strip_sent strip h = rw h refl

  pub state_stays : (room : ℕ) (e : Refusal) → send_refused (groups_of r.lanes s) records room ≡ Some e → s ≡ sent_state r s records room
  unfolding sent_state
  state_stays room e h = rw h refl

  pub state_sent : (room : ℕ) → send_refused (groups_of r.lanes s) records room ≡ None → state_after r s (blocks_of (groups_of r.lanes s) records) ≡ sent_state r s records room
  unfolding sent_state
  state_sent room h = rw h refl
