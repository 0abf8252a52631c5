-- `not_scales` meets its contract.
use mathlib.Core.Path.{sym, ◌∙◌, ap}
use mathlib.Core.Bool.{true}
use mathlib.Core.List.{[], ◌∷◌}
use Rattle.refusal.specs.Rows.{Length, number_of}
use Rattle.refusal.proofs.RowLaws.{zero_accepted}
use Rattle.isdbs_tables.proofs.TableLaws.{then_rows, before_rows}
use Rattle.c_scales.proofs.not_scales.Goals as goal

pub returns-then-answer-ne0 : goal.returns-then-answer-ne0
returns-then-answer-ne0 c =
    let t = c.args.t in
    let e = c.number-answer.ensures in
    let a = c.table_answer-a.ensures in
    let n = c.if-answer-ne0.true in
    e ∙ ap number_of (a ∙ sym (before_rows t ((Length, true) ∷ []) (λ y. n (e ∙ ap number_of (a ∙ y)))))

pub returns : goal.returns
returns c =
    let t = c.args.t in
    let a = c.table_answer-a.ensures in
    let y = zero_accepted _ (sym c.number-answer.ensures ∙ c.if-answer-ne0.false) in
    sym (ap number_of (then_rows t ((Length, true) ∷ []) (sym a ∙ y)))
