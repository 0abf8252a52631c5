-- `isdbt_decode_punctured` meets its contract.
use mathlib.Core.Path.{◌≡◌, refl, sym, ◌∙◌, ap}
use mathlib.Core.List.{List, []}
use lib.ListN.{length}
use Rattle.refusal.specs.Rows.{Row, Accepted}
use Rattle.std.specs.Prelude.{Err}
use Rattle.trellis.specs.Lists.{laid}
use Rattle.isdbt_table.specs.declared.CodeRate.{CodeRate}
use Rattle.std.specs.Prelude.{Some, None}
use Rattle.c_isdbt.specs.Rates.{rate_by}
use Rattle.c_answers.specs.AnswerLaws.{kept}
use Rattle.c_answers.proofs.LengthLaws.{until_refuses}
use Rattle.refusal.proofs.RowLaws.{zero_accepted, err_refuses}
use Rattle.c_isdbt.proofs.Rates.{rate_answer, rate_value}
use Prim.Native.Nat.{ℕ, ◌*◌, ◌/◌}
use Rattle.isdb_fec.specs.Rows.{fresh_rows}
use Rattle.isdbt_table.specs.Table.{period, sent}
use Rattle.isdbt_rows.specs.Rows.{decode_rows}
use Rattle.trellis.specs.Run.{depth}
use Rattle.isdbt_fec.specs.Calls.{decoded_bits}
use Rattle.c_isdbt.proofs.isdbt_decode_punctured.Goals as goal

pub returns-in_default : goal.returns-in_default
returns-in_default c =
    let q = c in
    let a = q.args in
    let em : rate_by a.rate ≡ None = sym q.rate_of-m.ensures ∙ c.in_default.is in
    let n = c.unknown_with_traceback.result in
    let e = c.unknown_with_traceback.ensures in
    let h = until_refuses (fresh_rows a.traceback) tt n e in record { answers = rw em e; words = kept n _ _ h; leaves = kept n _ _ h; counts = kept n _ _ h }

pub returns-in-Err : goal.returns-in-Err
returns-in-Err c =
    let a = c.args in
    let k = c.in-Some.c in
    let em : rate_by a.rate ≡ Some k = sym c.rate_of-m.ensures ∙ c.in-Some.is in
    let n = c.number in
    let call = rw c.in-Err.is at c.decode_punctured.ensures in
    let rows : CodeRate → List Row = λ x. decode_rows x a.llrs.now a.traceback (length a.decisions.now) (length a.out.now) in
    let w = rate_answer (rate_by a.rate) k em (fresh_rows a.traceback) rows n.result _ n.ensures call.answers in
    let h : n.result ≡ 0 → ⊥ = λ z. err_refuses (zero_accepted (Err c.in-Err.row) (sym n.ensures ∙ z)) in
    let l = call.leaves in
    record { answers = w; words = l.words ∙ kept n.result _ _ h; leaves = l.bits_are ∙ kept n.result _ _ h; counts = kept n.result _ _ h }

pub returns-in-Ok : goal.returns-in-Ok
returns-in-Ok c =
    let a = c.args in
    let k = c.in-Some.c in
    let em : rate_by a.rate ≡ Some k = sym c.rate_of-m.ensures ∙ c.in-Some.is in
    let call = rw c.in-Ok.is at c.decode_punctured.ensures in
    let rows : CodeRate → List Row = λ x. decode_rows x a.llrs.now a.traceback (length a.decisions.now) (length a.out.now) in
    let w = rate_answer (rate_by a.rate) k em (fresh_rows a.traceback) rows 0 Accepted refl call.answers in
    let l = call.leaves in
    record { answers = w; words = l.words; leaves = l.bits_are ∙ ap (λ (x : List ℕ). laid x a.out.now) (rate_value (rate_by a.rate) k em [] (λ x. decoded_bits x a.llrs.now (depth a.traceback))); counts = l.count_is ∙ rate_value (rate_by a.rate) k em 0 (λ x. length a.llrs.now / sent x * period x) }
