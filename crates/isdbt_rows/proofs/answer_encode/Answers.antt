-- `answer_encode` meets its contract.
use mathlib.Core.Path.{refl, sym, ◌∙◌}
use mathlib.Core.Bool.{true, false}
use native.Mathlib.Omega.{arith}
use borrow.Author.Tests.{lt-ltb, le-ltb, eq-eqb, ne_eqb}
use Rattle.isdbt_table.specs.NumberLaws.{numbers}
use Rattle.isdbt_rows.proofs.Refusals.{encode_answer}
use Rattle.isdbt_rows.proofs.answer_encode.Goals as goal

pub returns-then-state-gt63 : goal.returns-then-state-gt63
returns-then-state-gt63 c =
    let a = c.args in
    encode_answer a.rate c.new-p.ensures a.state a.count a.space true _ _ (lt-ltb _ _ c.if-state-gt63.true) refl refl

pub nonzero_rem-count : goal.nonzero_rem-count
nonzero_rem-count c =
    let r = (numbers c.args.rate _ c.new-p.ensures).ranges in
    omega arith

pub returns-then-count-p-ne0 : goal.returns-then-count-p-ne0
returns-then-count-p-ne0 c =
    let a = c.args in
    encode_answer a.rate c.new-p.ensures a.state a.count a.space false false _ (le-ltb _ _ c.if-state-gt63.false) (ne_eqb _ _ c.if-count-p-ne0.true) refl

pub nonzero_div-count : goal.nonzero_div-count
nonzero_div-count c =
    let r = (numbers c.args.rate _ c.new-p.ensures).ranges in
    omega arith

pub few-requires : goal.few-requires
few-requires c =
    let r = (numbers c.args.rate _ c.new-p.ensures).ranges in
    omega arith

pub returns-then-few : goal.returns-then-few
returns-then-few c =
    let a = c.args in
    encode_answer a.rate c.new-p.ensures a.state a.count a.space false true true (le-ltb _ _ c.if-state-gt63.false) (eq-eqb _ _ c.if-count-p-ne0.false) (sym c.few.ensures ∙ c.if-few.true)

pub returns : goal.returns
returns c =
    let a = c.args in
    encode_answer a.rate c.new-p.ensures a.state a.count a.space false true false (le-ltb _ _ c.if-state-gt63.false) (eq-eqb _ _ c.if-count-p-ne0.false) (sym c.few.ensures ∙ c.if-few.false)
