use Rattle.c_table.proofs.Answers.{table_refused, table_short, table_enough, not_zero, runs_refused, runs_number, count_is, count_most, number_at, number_small}
use Rattle.c_answers.specs.AnswerLaws.{kept}
use mathlib.Core.Path.{◌≡◌, refl, ◌∙◌}
use Prim.Native.Nat.{◌*◌, ◌-◌}
use native.Mathlib.Omega.{arith}
use lib.ListN.{length, length-set}
use Rattle.trellis.specs.Lists.{upto}
use Rattle.isdbs_plan.specs.RunsOf.{runs_of}
use Rattle.c_table.specs.Forms.{table_of, run_number}
use Rattle.c_table.proofs.Laws.{front_more}
use Rattle.c_table.proofs.isdbs_runs.Goals as goal

pub returns-in-Err : goal.returns-in-Err
returns-in-Err c =
    let a = c.args in
    let n = c.number.result in
    let e = runs_refused a.table c.table_of.result c.runs.result c.table_of.ensures c.runs.ensures c.in-Err.row n c.in-Err.is c.number.ensures in
    let h = not_zero c.in-Err.row n c.number.ensures in
    record { answers = table_refused (table_of a.table) (6 * length (runs_of (table_of a.table))) (length a.out.now) n e h; leaves = kept n _ _ h; counts = kept n _ _ h }

pub overflow_mul-places : goal.overflow_mul-places
overflow_mul-places c =
    let e = count_most c.args.table c.table_of.result c.runs.result c.table_of.ensures c.runs.ensures c.in-Ok.all c.in-Ok.is in
    omega arith

pub returns-then-out-places : goal.returns-then-out-places
returns-then-out-places c =
    let a = c.args in
    let e = runs_number a.table c.table_of.result c.runs.result c.table_of.ensures c.runs.ensures c.in-Ok.all c.in-Ok.is in
    record { answers = table_short (table_of a.table) (6 * length (runs_of (table_of a.table))) (length a.out.now) 0 e refl (rw (count_is a.table c.table_of.result c.runs.result c.table_of.ensures c.runs.ensures c.in-Ok.all c.in-Ok.is) at c.if-out-places.true); leaves = refl; counts = refl }

pub loop-i-init : goal.loop-i-init
unfolding upto
loop-i-init c =
    let a = c.args in
    (omega arith, refl, refl, c.if-out-places.false, count_is a.table c.table_of.result c.runs.result c.table_of.ensures c.runs.ensures c.in-Ok.all c.in-Ok.is, refl, count_most a.table c.table_of.result c.runs.result c.table_of.ensures c.runs.ensures c.in-Ok.all c.in-Ok.is)

pub bounds-runs-i : goal.bounds-runs-i
bounds-runs-i c = let v = c.loop-i.invariant in omega arith

pub overflow_cast-out : goal.overflow_cast-out
overflow_cast-out c =
    let a = c.args in
    let q = number_small a.table c.table_of.result c.runs.result c.table_of.ensures c.runs.ensures c.in-Ok.all c.in-Ok.is c.loop-i.i c.loop-i-test.true in
    let k = number_at a.table c.table_of.result c.runs.result c.table_of.ensures c.runs.ensures c.in-Ok.all c.in-Ok.is c.loop-i.i c.loop-i-test.true in
    let e : c.run_number.result ≡ run_number (runs_of (table_of a.table)) c.loop-i.i = c.run_number.ensures ∙ k in
    omega arith

pub bounds-out-i : goal.bounds-out-i
bounds-out-i c = let v = c.loop-i.invariant in omega arith

pub loop-i-preserved : goal.loop-i-preserved
loop-i-preserved c =
    let a = c.args in
    let v = c.loop-i.invariant in
    let k = number_at a.table c.table_of.result c.runs.result c.table_of.ensures c.runs.ensures c.in-Ok.all c.in-Ok.is c.loop-i.i c.loop-i-test.true in (
      omega arith,
      front_more (run_number (runs_of (table_of a.table))) c.loop-i.i a.out.now c.loop-i.out c.run_number.result v.1 (c.run_number.ensures ∙ k) (omega arith),
      length-set c.loop-i.out c.loop-i.i c.run_number.result ∙ v.2,
      v.3,
      v.4,
      refl,
      v.6,
    )

pub overflow_cast-count : goal.overflow_cast-count
overflow_cast-count c = let v = c.loop-i.invariant in omega arith

pub shape_of-out : goal.shape_of-out
shape_of-out c = c.loop-i.invariant.2

pub returns-after-loop-i : goal.returns-after-loop-i
returns-after-loop-i c =
    let a = c.args in
    let e = runs_number a.table c.table_of.result c.runs.result c.table_of.ensures c.runs.ensures c.in-Ok.all c.in-Ok.is in
    let v = c.loop-i.invariant in
    let z : c.loop-i.i ≡ 6 * length (runs_of (table_of a.table)) = omega arith in
    record { answers = table_enough (table_of a.table) (6 * length (runs_of (table_of a.table))) (length a.out.now) 0 e refl (omega arith); leaves = rw z at v.1; counts = v.4 }
