use Rattle.c_table.proofs.Answers.{marks_number, marks_refused, marks_at, not_zero, table_refused, table_short, table_enough}
use Rattle.c_answers.specs.AnswerLaws.{kept}
use Rattle.isdbs_marks.specs.declared.SlotMark.{SlotMark}
use Prim.Native.Nat.{◌-◌}
use mathlib.Core.Path.{◌≡◌, refl, ◌∙◌, ap}
use lib.ListN.{length, length-set}
use Rattle.trellis.specs.Lists.{upto}
use Rattle.c_table.specs.Forms.{table_of, mark_word}
use Rattle.c_table.proofs.Laws.{front_more}
use native.Mathlib.Omega.{arith}
use Rattle.c_table.proofs.isdbs_slot_combinations.Invariants.{marked}
use Rattle.c_table.proofs.isdbs_slot_combinations.Goals as goal

pub returns-in-Err : goal.returns-in-Err
returns-in-Err c =
    let a = c.args in
    let n = c.number.result in
    let e = marks_refused a.table c.table_of.result c.slot_combinations.result c.table_of.ensures c.slot_combinations.ensures c.in-Err.row n c.in-Err.is c.number.ensures in
    let h = not_zero c.in-Err.row n c.number.ensures in
    record { answers = table_refused (table_of a.table) 48 (length a.out.now) n e h; leaves = kept n _ _ h }

pub returns-then-out-lt-FRAME_SLOTS : goal.returns-then-out-lt-FRAME_SLOTS
returns-then-out-lt-FRAME_SLOTS c =
    let a = c.args in
    let e = marks_number a.table c.table_of.result c.slot_combinations.result c.table_of.ensures c.slot_combinations.ensures c.in-Ok.slots c.in-Ok.is in
    record { answers = table_short (table_of a.table) 48 (length a.out.now) 0 e refl c.if-out-lt-FRAME_SLOTS.true; leaves = refl }

pub loop-s-init : goal.loop-s-init
unfolding upto
loop-s-init c = (omega arith, refl, refl, c.if-out-lt-FRAME_SLOTS.false)

pub loop-s-preserved : goal.loop-s-preserved
loop-s-preserved c =
    let a = c.args in
    let s = c.loop-s.s in
    let q = marks_at a.table c.table_of.result c.slot_combinations.result c.table_of.ensures c.slot_combinations.ensures c.in-Ok.slots c.in-Ok.is s _ c.loop-s-test.true in (
      omega arith,
      front_more (marked a.table) s a.out.now c.loop-s.out c.mark_word.result c.loop-s.invariant.1 (c.mark_word.ensures ∙ ap (λ (x : SlotMark). mark_word x.mark) q) (omega arith),
      length-set c.loop-s.out s c.mark_word.result ∙ c.loop-s.invariant.2,
      c.loop-s.invariant.3,
    )

pub shape_of-out : goal.shape_of-out
shape_of-out c = c.loop-s.invariant.2

pub returns-after-loop-s : goal.returns-after-loop-s
returns-after-loop-s c =
    let a = c.args in
    let e = marks_number a.table c.table_of.result c.slot_combinations.result c.table_of.ensures c.slot_combinations.ensures c.in-Ok.slots c.in-Ok.is in
    let z : c.loop-s.s ≡ 48 = omega arith in
    record { answers = table_enough (table_of a.table) 48 (length a.out.now) 0 e refl c.loop-s.invariant.3; leaves = rw z at c.loop-s.invariant.1 }
