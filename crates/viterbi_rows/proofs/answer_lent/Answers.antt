-- `answer_lent` meets its contract.
use mathlib.Core.Path.{sym, ◌∙◌, ap}
use mathlib.Core.List.{List}
use native.Mathlib.Omega.{arith}
use lib.Seq.{take_all}
use lib.Ieee.{Float}
use Rattle.refusal.specs.Rows.{first_row}
use Rattle.viterbi_rows.specs.Rows.{handed_rows}
use Rattle.viterbi_rows.proofs.answer_lent.Goals as goal

pub returns-then-pm-lt-STATES : goal.returns-then-pm-lt-STATES
returns-then-pm-lt-STATES c =
    let a = c.args in
    c.answer_handed.ensures ∙ ap (λ (l : List Float). first_row (handed_rows l a.held a.traceback)) (sym (take_all 64 a.pm.now (omega arith)))
