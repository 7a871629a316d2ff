use Rattle.std.proofs.Common.{◌≡◌, ℕ, ◌-◌, List, ◌++◌, length, take, drop, Ok, Err, Option, Result, sym, subst, ap, ◌∙◌, append_assoc, take-append-drop}
use Rattle.std.proofs.lemmas.List.{take_rest}
use Rattle.std.specs.Io.KnownBytes.{Appends}
use Rattle.std.proofs.KnownBytes.{Appends-trans}
use Rattle.commands.specs.Streams.{Writes}
use Rattle.commands.proofs.streams.put.Goals as goal

behind_front : {A E : Type 0} (old mid new : Option (List ℕ)) (front rest text : List ℕ) (r : Result A E) → text ≡ front ++ rest → Appends old mid front → Writes mid new r rest
    → Writes old new r text
behind_front old mid new front rest text (Ok x) e p w = subst (Appends old new) (sym e) (Appends-trans old mid new front rest p w)
behind_front old mid new front rest text (Err x) e p (done, left, split, w) =
    (front ++ done, left, e ∙ ap (λ l. front ++ l) split ∙ sym (append_assoc front done left), Appends-trans old mid new front done p w)

parted : (n : ℕ) (text : List ℕ) → text ≡ take n text ++ take (length text - n) (drop n text)
parted n text = sym (take-append-drop n text) ∙ ap (λ l. take n text ++ l) (sym (take_rest text n))

pub returns-in-Ok-2 : goal.returns-in-Ok-2
returns-in-Ok-2 g c = behind_front _ _ _ _ _ _ _ (parted c.in-Ok.n c.args.text.now) c.in-Ok.ensures.bytes c.put_rest.ensures
