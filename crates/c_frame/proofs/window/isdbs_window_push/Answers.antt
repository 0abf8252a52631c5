-- `isdbs_window_push` meets its contract: it is one push of the library.
use mathlib.Core.Path.{◌≡◌, sym, ◌∙◌, ap}
use Rattle.std.specs.Prelude.{Err}
use Rattle.refusal.specs.Rows.{number_of}
use Rattle.refusal.proofs.RowLaws.{err_refuses, zero_accepted}
use Rattle.strain_window.specs.declared.WindowState.{WindowState}
use Rattle.c_answers.specs.AnswerLaws.{kept}
use Rattle.c_frame.proofs.window.isdbs_window_push.Goals as goal

pub returns-in-Err : goal.returns-in-Err
returns-in-Err c =
    let n = c.number in
    let s = rw c.in-Err.is at c.push.ensures in
    let h : n.result ≡ 0 → ⊥ = λ z. err_refuses (zero_accepted (Err c.in-Err.row) (sym n.ensures ∙ z)) in
    record {
      answers = n.ensures ∙ ap number_of s.answers;
      filled = kept n.result _ _ h;
      follows = kept n.result _ _ h;
      keeps = s.leaves ∙ kept n.result _ _ h;
      sums = kept n.result _ _ h;
      tops = kept n.result _ _ h;
    }

pub returns-in-Ok : goal.returns-in-Ok
returns-in-Ok c =
    let s = rw c.in-Ok.is at c.push.ensures in
    let l = s.leaves in
    record {
      answers = ap number_of s.answers;
      filled = ap (λ (v : WindowState). v.fill) l.state_is;
      follows = ap (λ (v : WindowState). v.next) l.state_is;
      keeps = l.kept_is;
      sums = l.total_is;
      tops = l.greatest_is;
    }
