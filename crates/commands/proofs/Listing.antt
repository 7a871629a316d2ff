-- A walk over a buffer, a line a record.
use Rattle.std.proofs.Common.{◌≡◌, ℕ, zero, suc, ◌+◌, ◌<◌, List, [], ◌∷◌, ◌++◌, length, length-drop, append_assoc, append-nil, add-one, ap, ap₂, ◌∙◌, sym, None, Some, Ok, Err, arith}
use Rattle.blocks.specs.declared.refusal.Refusal.{Refusal}
use Rattle.blocks.specs.Records.{Item, look, rest_at, size_of}
use Rattle.blocks.specs.Refusals.{text_of}
use Rattle.commands.specs.Walks.{behind}
use Rattle.commands.proofs.Walks.{rest_first, rest_next}
use Rattle.commands.specs.Text.{item_line, lines_from, refusal_from, then_lines, then_refusal, listed, listing_refusal}

pub shorter : (n : ℕ) (xs : List ℕ) (r : ℕ × Item) → look n xs ≡ Ok (Some r) → length (behind xs) < length xs
unfolding look
shorter n [] r h = absurd cc
shorter n (k ∷ xs) r h = omega (arith, length-drop (1 + size_of k) (k ∷ xs))

pub fewer : (xs ys : List ℕ) (n m : ℕ) (r : ℕ × Item) → ys ≡ xs → m ≡ n + 1 → look n (rest_at xs n) ≡ Ok (Some r) → length (rest_at ys m) < length (rest_at xs n)
fewer xs ys n m r same next found =
    let e : rest_at ys m ≡ behind (rest_at xs n) = ap₂ rest_at same next ∙ rest_next xs n in
    let less = shorter n (rest_at xs n) r found in
    omega (arith, less, ap length e)

-- so many records of xs are in the text, and what m more bring is left
pub record Listed (xs text : List ℕ) (n : ℕ) : Type 0 where
  pub most : ℕ
  pub enough : length (rest_at xs n) < most
  pub lines : listed xs ≡ text ++ lines_from most n (rest_at xs n)
  pub why : listing_refusal xs ≡ refusal_from most n (rest_at xs n)

pub listed_first : (xs : List ℕ) → Listed xs [] 0
listed_first xs =
    let e = rest_first xs in
    record { most = suc (length xs); enough = omega (arith, ap length e); lines = ap (lines_from (suc (length xs)) 0) (sym e); why = ap (refusal_from (suc (length xs)) 0) (sym e) }

module _ (xs text : List ℕ) (n : ℕ) where
  next : (m : ℕ) (r : ℕ × Item) → look n (rest_at xs n) ≡ Ok (Some r) → length (rest_at xs n) < m → listed xs ≡ text ++ lines_from m n (rest_at xs n)
      → listing_refusal xs ≡ refusal_from m n (rest_at xs n) → Listed xs (text ++ item_line r.1) (n + 1)
  unfolding lines_from refusal_from
  next zero r e l p q = absurd (omega arith)
  next (suc m) r e l p q =
      let less = shorter n (rest_at xs n) r e in
      let on = rest_next xs n in
      record {
        most = m;
        enough = omega (arith, less, ap length on);
        lines = p ∙ ap (λ o. text ++ then_lines o (lines_from m (suc n) (behind (rest_at xs n)))) e ∙ sym (append_assoc text (item_line r.1) _)
            ∙ ap₂ (λ i xs. (text ++ item_line r.1) ++ lines_from m i xs) (sym (add-one n)) (sym on);
        why = q ∙ ap (λ o. then_refusal o (refusal_from m (suc n) (behind (rest_at xs n)))) e ∙ ap₂ (refusal_from m) (sym (add-one n)) (sym on);
      }

  pub listed_next : (r : ℕ × Item) → Listed xs text n → look n (rest_at xs n) ≡ Ok (Some r) → Listed xs (text ++ item_line r.1) (n + 1)
  listed_next r h e = next h.most r e h.enough h.lines h.why

  at_end : (m : ℕ) → look n (rest_at xs n) ≡ Ok None → length (rest_at xs n) < m → listed xs ≡ text ++ lines_from m n (rest_at xs n)
      → listing_refusal xs ≡ refusal_from m n (rest_at xs n) → (text ≡ listed xs) × (None ≡ listing_refusal xs)
  unfolding lines_from refusal_from
  at_end zero e l p q = absurd (omega arith)
  at_end (suc m) e l p q =
      (sym (p ∙ ap (λ o. text ++ then_lines o (lines_from m (suc n) (behind (rest_at xs n)))) e ∙ append-nil text), sym (q ∙ ap (λ o. then_refusal o (refusal_from m (suc n) (behind (rest_at xs n)))) e))

  pub listed_end : Listed xs text n → look n (rest_at xs n) ≡ Ok None → (text ≡ listed xs) × (None ≡ listing_refusal xs)
  listed_end h e = at_end h.most e h.enough h.lines h.why

  at_refusal : (m : ℕ) (why : Refusal) → look n (rest_at xs n) ≡ Err why → length (rest_at xs n) < m → listed xs ≡ text ++ lines_from m n (rest_at xs n)
      → listing_refusal xs ≡ refusal_from m n (rest_at xs n) → (text ++ (text_of why ++ 10 ∷ []) ≡ listed xs) × (Some why ≡ listing_refusal xs)
  unfolding lines_from refusal_from
  at_refusal zero why e l p q = absurd (omega arith)
  at_refusal (suc m) why e l p q =
      (sym (p ∙ ap (λ o. text ++ then_lines o (lines_from m (suc n) (behind (rest_at xs n)))) e), sym (q ∙ ap (λ o. then_refusal o (refusal_from m (suc n) (behind (rest_at xs n)))) e))

  pub listed_refused : (why : Refusal) → Listed xs text n → look n (rest_at xs n) ≡ Err why → (text ++ (text_of why ++ 10 ∷ []) ≡ listed xs) × (Some why ≡ listing_refusal xs)
  listed_refused why h e = at_refusal h.most why e h.enough h.lines h.why
