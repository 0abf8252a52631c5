-- `answer_known` meets its contract.
use mathlib.Core.Path.{sym, ◌∙◌}
use Rattle.std.proofs.lemmas.Result.{err_from_is_err_and}
use Rattle.std.proofs.lemmas.Result.{err_from_is_err_and}
use Prim.Native.Nat.{◌-◌}
use mathlib.Core.List.{[], ◌∷◌}
use Rattle.viterbi_rows.specs.Rows.{handed_rows, steps_short}
use Rattle.refusal.specs.Rows.{Space}
use Rattle.refusal.proofs.RowLaws.{turned_back, passed_by}
use Rattle.viterbi_rows.specs.RowLaws.{sound}
use Rattle.viterbi_rows.proofs.answer_known.Goals as goal

pub returns-in_err-answer_handed : goal.returns-in_err-answer_handed
returns-in_err-answer_handed c =
    let a = c.args in
    let p = err_from_is_err_and c.from_residual.result c.from_residual.ensures.1 in
    rw (p.1, p.2) (turned_back (handed_rows a.pm.now a.held a.traceback) ((Space, steps_short a.n a.held a.traceback a.decisions a.out) ∷ []) _ (sym c.in_err-answer_handed.was ∙ c.answer_handed.ensures))

pub answer_space-requires : goal.answer_space-requires
answer_space-requires c =
    let h = sound c.args.pm.now c.args.held c.args.traceback (sym c.in_ok-answer_handed.was ∙ c.answer_handed.ensures) in
    (h.least, h.most, h.fewer)

pub returns : goal.returns
returns c =
    let a = c.args in
    passed_by (handed_rows a.pm.now a.held a.traceback) ((Space, steps_short a.n a.held a.traceback a.decisions a.out) ∷ []) tt (sym c.in_ok-answer_handed.was ∙ c.answer_handed.ensures)
    c.answer_space.ensures
