-- `answer_decode` meets its contract.
use mathlib.Core.Path.{refl, sym, ◌∙◌}
use mathlib.Core.Bool.{true, false}
use native.Mathlib.Omega.{arith}
use borrow.Author.Tests.{lt-ltb, le-ltb, eq-eqb, ne_eqb}
use Rattle.trellis.proofs.RunLaws.{depth_range}
use Rattle.isdbt_table.specs.NumberLaws.{numbers}
use Rattle.isdbt_rows.proofs.Refusals.{decode_answer}
use Rattle.isdbt_rows.proofs.answer_decode.Goals as goal

pub returns-then-traceback-gt-TRACEBACK_LIMIT : goal.returns-then-traceback-gt-TRACEBACK_LIMIT
returns-then-traceback-gt-TRACEBACK_LIMIT c =
    let a = c.args in
    decode_answer a.rate c.new-p.ensures a.llrs.now a.traceback a.decisions a.space true _ _ _ _
    (lt-ltb _ _ c.if-traceback-gt-TRACEBACK_LIMIT.true) refl refl refl refl

pub nonzero_rem-llrs : goal.nonzero_rem-llrs
nonzero_rem-llrs c =
    let r = (numbers c.args.rate _ c.new-p.ensures).ranges in
    omega arith

pub returns-then-llrs-p-ne0 : goal.returns-then-llrs-p-ne0
returns-then-llrs-p-ne0 c =
    let a = c.args in
    decode_answer a.rate c.new-p.ensures a.llrs.now a.traceback a.decisions a.space false false _ _ _
    (le-ltb _ _ c.if-traceback-gt-TRACEBACK_LIMIT.false) (ne_eqb _ _ c.if-llrs-p-ne0.true) refl refl refl

pub returns-then-some_beyond : goal.returns-then-some_beyond
returns-then-some_beyond c =
    let a = c.args in
    decode_answer a.rate c.new-p.ensures a.llrs.now a.traceback a.decisions a.space false true true _ _
    (le-ltb _ _ c.if-traceback-gt-TRACEBACK_LIMIT.false) (eq-eqb _ _ c.if-llrs-p-ne0.false) (sym c.some_beyond.ensures ∙ c.if-some_beyond.true) refl refl

pub nonzero_div-llrs : goal.nonzero_div-llrs
nonzero_div-llrs c =
    let new = c in
    let start = new in
    let r = (numbers start.args.rate _ new.new-p.ensures).ranges in
    omega arith

pub few-requires : goal.few-requires
few-requires c =
    let new = c in
    let start = new in
    let r = (numbers start.args.rate _ new.new-p.ensures).ranges in
    omega arith

pub returns-then-few : goal.returns-then-few
returns-then-few c =
    let some-beyond = c in
    let if1 = some-beyond in
    let start = if1 in
    let a = start.args in
    decode_answer a.rate if1.new-p.ensures a.llrs.now a.traceback a.decisions a.space false true false true _
    (le-ltb _ _ if1.if-traceback-gt-TRACEBACK_LIMIT.false) (eq-eqb _ _ some-beyond.if-llrs-p-ne0.false) (sym some-beyond.some_beyond.ensures ∙ c.if-some_beyond.false) (sym c.few.ensures ∙ c.if-few.true) refl

pub overflow_add-depth_of : goal.overflow_add-depth_of
overflow_add-depth_of c =
    let if1 = c in
    let start = if1 in
    let d = depth_range start.args.traceback if1.if-traceback-gt-TRACEBACK_LIMIT.false in
    let e = c.depth_of.ensures in
    omega arith

pub returns-then-decisions-depth_of : goal.returns-then-decisions-depth_of
returns-then-decisions-depth_of c =
    let if3 = c in
    let if2 = if3 in
    let if1 = if2 in
    let start = if1 in
    let a = start.args in
    decode_answer a.rate if1.new-p.ensures a.llrs.now a.traceback a.decisions a.space false true false false true
    (le-ltb _ _ if1.if-traceback-gt-TRACEBACK_LIMIT.false) (eq-eqb _ _ if2.if-llrs-p-ne0.false) (sym if3.some_beyond.ensures ∙ if3.if-some_beyond.false) (sym c.few.ensures ∙ c.if-few.false)
    (lt-ltb _ _ (rw c.depth_of.ensures at c.if-decisions-depth_of.true))

pub returns : goal.returns
returns c =
    let if3 = c in
    let if2 = if3 in
    let if1 = if2 in
    let start = if1 in
    let a = start.args in
    decode_answer a.rate if1.new-p.ensures a.llrs.now a.traceback a.decisions a.space false true false false false
    (le-ltb _ _ if1.if-traceback-gt-TRACEBACK_LIMIT.false) (eq-eqb _ _ if2.if-llrs-p-ne0.false) (sym if3.some_beyond.ensures ∙ if3.if-some_beyond.false) (sym c.few.ensures ∙ c.if-few.false)
    (le-ltb _ _ (rw c.depth_of.ensures at c.if-decisions-depth_of.false))
