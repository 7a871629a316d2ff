use Rattle.std.proofs.Common.{List, Err, Result, sym, refl, ap, ◌∙◌, subst, ap₂, arith}
use Rattle.std.proofs.lemmas.Result.{err_from_is_err_and}
use Rattle.sender.specs.View.{Made}
use Rattle.sender.specs.declared.refusal.Refusal.{Refusal}
use Rattle.sender.specs.declared.refusal.Refusal.TheVariants.{Blocks}
use Rattle.sender.specs.declared.send.Sender.{Sender}
use Rattle.sender.proofs.ByHand.{hand_checked}
use Rattle.sender.proofs.send.Sender.new.Goals as goal

pub returns-in_err-scrambler : goal.returns-in_err-scrambler
returns-in_err-scrambler g c =
    let p = err_from_is_err_and c.from_residual.result c.from_residual.ensures.1 in
    let h = c.in_err-scrambler.ensures in
    record {
      made = subst (λ (r : Result (Sender g.row.R.Denot) Refusal). Made c.args.scramble c.args.pad c.args.status r) (sym (p.1 ∙ ap Err (p.2 ∙ ap Blocks h.1)))
          ((λ a. let b = a.start_of_58 in let k = h.0 in omega arith), refl);
      hand = hand_checked;
    }

pub returns-in_err-pad : goal.returns-in_err-pad
returns-in_err-pad g c =
    let p = err_from_is_err_and c.from_residual-in_err-pad.result c.from_residual-in_err-pad.ensures.1 in
    let h = c.in_err-pad.ensures in
    record {
      made = subst (λ (r : Result (Sender g.row.R.Denot) Refusal). Made c.args.scramble c.args.pad c.args.status r) (sym (p.1 ∙ ap Err (p.2 ∙ ap Blocks h.1)))
          ((λ a. h.0 (a.pad_above, a.pad_below)), refl);
      hand = hand_checked;
    }

pub returns-then-status-gt-LAST_STATUS : goal.returns-then-status-gt-LAST_STATUS
returns-then-status-gt-LAST_STATUS g c = record { made = ((λ a. let b = a.status_below in omega arith), refl); hand = hand_checked }

pub returns : goal.returns
returns g c =
    let s = c.in_ok-scrambler.ensures in
    let p = c.in_ok-pad.ensures in
    record {
      made = (
        record { start_of_58 = s.0; pad_above = p.0; pad_below = p.1; status_below = omega arith },
        ap₂ (λ (u v : List _). record { scrambler = u; pad = v; status = c.args.status; index = 0 }) s.1 p.2,
      );
      hand = hand_checked;
    }
