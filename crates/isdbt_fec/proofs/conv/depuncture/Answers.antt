-- `conv::depuncture` meets its contract.
use mathlib.Core.Path.{refl, sym, ◌∙◌}
use lib.ListN.{length}
use Rattle.std.proofs.lemmas.Result.{err_from_is_err_and}
use Rattle.isdbt_rows.proofs.RowLaws.{depuncture_enough}
use Rattle.isdbt_fec.proofs.conv.depuncture.Goals as goal

pub returns-in_err-answer_depuncture : goal.returns-in_err-answer_depuncture
returns-in_err-answer_depuncture c =
    let p = err_from_is_err_and c.from_residual.result c.from_residual.ensures.1 in
    record { answers = rw (p.1, p.2) (sym c.in_err-answer_depuncture.was ∙ c.answer_depuncture.ensures); leaves = rw p.1 refl }

pub depuncture_periods-requires : goal.depuncture_periods-requires
depuncture_periods-requires c =
    let a = c.args in
    let yes = sym c.in_ok-answer_depuncture.was ∙ c.answer_depuncture.ensures in
    depuncture_enough a.rate (length a.llrs.now) (length a.out.now) yes

pub returns : goal.returns
returns c =
    let at-enum-told = c in
    let answer-depuncture = at-enum-told in
    let start = answer-depuncture in
    let a = start.args in
    let yes = sym at-enum-told.in_ok-answer_depuncture.was ∙ answer-depuncture.answer_depuncture.ensures in
    let q = c.depuncture_periods.ensures in record { answers = yes; leaves = (record { count_is = q.0; values = q.1 }) }
