-- `answer_depuncture` meets its contract.
use mathlib.Core.Path.{refl, sym, ◌∙◌}
use mathlib.Core.Bool.{true, false}
use native.Mathlib.Omega.{arith}
use borrow.Author.Tests.{eq-eqb, ne_eqb}
use Rattle.isdbt_table.specs.NumberLaws.{numbers}
use Rattle.isdbt_rows.proofs.Refusals.{depuncture_answer}
use Rattle.isdbt_rows.proofs.answer_depuncture.Goals as goal

pub nonzero_rem-count : goal.nonzero_rem-count
nonzero_rem-count c =
    let r = (numbers c.args.rate _ c.new-p.ensures).ranges in
    omega arith

pub returns-then-count-p-ne0 : goal.returns-then-count-p-ne0
returns-then-count-p-ne0 c =
    let a = c.args in
    depuncture_answer a.rate c.new-p.ensures a.count a.space false _ (ne_eqb _ _ c.if-count-p-ne0.true) refl

pub overflow_mul-p : goal.overflow_mul-p
overflow_mul-p c =
    let r = (numbers c.args.rate _ c.new-p.ensures).ranges in
    omega arith

pub nonzero_div-count : goal.nonzero_div-count
nonzero_div-count c =
    let r = (numbers c.args.rate _ c.new-p.ensures).ranges in
    omega arith

pub few-requires : goal.few-requires
few-requires c =
    let r = (numbers c.args.rate _ c.new-p.ensures).ranges in
    omega arith

pub returns-then-few : goal.returns-then-few
returns-then-few c =
    let a = c.args in
    depuncture_answer a.rate c.new-p.ensures a.count a.space true true (eq-eqb _ _ c.if-count-p-ne0.false) (sym c.few.ensures ∙ c.if-few.true)

pub returns : goal.returns
returns c =
    let a = c.args in
    depuncture_answer a.rate c.new-p.ensures a.count a.space true false (eq-eqb _ _ c.if-count-p-ne0.false) (sym c.few.ensures ∙ c.if-few.false)
