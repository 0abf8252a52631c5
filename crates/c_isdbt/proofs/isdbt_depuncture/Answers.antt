-- `isdbt_depuncture` meets its contract.
use mathlib.Core.Path.{◌≡◌, refl, sym, ◌∙◌, ap}
use mathlib.Core.List.{List, []}
use lib.ListN.{length}
use Rattle.refusal.specs.Rows.{Row, Accepted}
use Rattle.std.specs.Prelude.{Err}
use Rattle.trellis.specs.Lists.{laid}
use Rattle.isdbt_table.specs.declared.CodeRate.{CodeRate}
use Rattle.std.specs.Prelude.{Some}
use Rattle.c_isdbt.specs.Rates.{rate_by}
use Rattle.c_answers.specs.AnswerLaws.{kept}
use Rattle.refusal.proofs.RowLaws.{zero_accepted, err_refuses}
use Rattle.c_isdbt.proofs.Rates.{rate_answer, rate_value}
use Prim.Native.Nat.{◌*◌, ◌/◌}
use lib.Ieee.{Float}
use Rattle.isdbt_table.specs.Table.{period, sent}
use Rattle.isdbt_table.specs.Puncture.{depunctured}
use Rattle.isdbt_rows.specs.Rows.{depuncture_rows}
use Rattle.c_isdbt.proofs.isdbt_depuncture.Goals as goal

pub returns-in-Err : goal.returns-in-Err
returns-in-Err c =
    let a = c.args in
    let k = c.in-Some.c in
    let em : rate_by a.rate ≡ Some k = sym c.rate_of-m.ensures ∙ c.in-Some.is in
    let n = c.number in
    let call = rw c.in-Err.is at c.depuncture.ensures in
    let rows : CodeRate → List Row = λ x. depuncture_rows x (length a.llrs.now) (length a.out.now) in
    let w = rate_answer (rate_by a.rate) k em [] rows n.result _ n.ensures call.answers in
    let h : n.result ≡ 0 → ⊥ = λ z. err_refuses (zero_accepted (Err c.in-Err.row) (sym n.ensures ∙ z)) in
    let l = call.leaves in
    record { answers = w; leaves = l ∙ kept n.result _ _ h; counts = kept n.result _ _ h }

pub returns-in-Ok : goal.returns-in-Ok
returns-in-Ok c =
    let a = c.args in
    let k = c.in-Some.c in
    let em : rate_by a.rate ≡ Some k = sym c.rate_of-m.ensures ∙ c.in-Some.is in
    let call = rw c.in-Ok.is at c.depuncture.ensures in
    let rows : CodeRate → List Row = λ x. depuncture_rows x (length a.llrs.now) (length a.out.now) in
    let w = rate_answer (rate_by a.rate) k em [] rows 0 Accepted refl call.answers in
    let l = call.leaves in
    record { answers = w; leaves = l.values ∙ ap (λ (x : List Float). laid x a.out.now) (rate_value (rate_by a.rate) k em [] (λ x. depunctured x a.llrs.now)); counts = l.count_is ∙ rate_value (rate_by a.rate) k em 0 (λ x. length a.llrs.now / sent x * (2 * period x)) }
