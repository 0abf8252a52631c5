-- `space_answer` meets its contract.
use Rattle.isdbs_plan.specs.declared.Plan.{Plan}
use Rattle.isdbs_plan.specs.PlanLaws.{table_laid}
use Rattle.isdbs_plan.specs.RunsOf.{valid_total, frame_steps, load_bytes}
use borrow.Author.Tests.{lt-ltb, le-ltb}
use native.Mathlib.Omega.{arith}
use Prim.Native.Nat.{◌+◌}
use mathlib.Core.Path.{ap}
use Rattle.isdbs_rows.proofs.space_answer.Goals as goal

pub returns-then-decisions-lt-FRAME_WORDS : goal.returns-then-decisions-lt-FRAME_WORDS
returns-then-decisions-lt-FRAME_WORDS c = rw (lt-ltb _ _ c.if-decisions-lt-FRAME_WORDS.true)

pub overflow_add-p : goal.overflow_add-p
overflow_add-p c =
    let st = c in
    let s = (table_laid st.args.p.table st.requires.accepted).steps in
    let e = ap (λ (z : Plan). z.steps) st.requires.is in
    record { fits = omega arith }

pub returns-then-bits-p : goal.returns-then-bits-p
returns-then-bits-p c =
    let st = c in
    let d = ap (λ (z : Plan). z.bytes) st.requires.is in
    let e = ap (λ (z : Plan). z.steps) st.requires.is in
    let g = c.if-bits-p.true in
    rw (le-ltb _ _ c.if-decisions-lt-FRAME_WORDS.false, lt-ltb st.args.bits (frame_steps st.args.p.table + 16) (omega arith))

pub returns-then-bytes-p : goal.returns-then-bytes-p
returns-then-bytes-p c =
    let st = c in
    let d = ap (λ (z : Plan). z.bytes) st.requires.is in
    let e = ap (λ (z : Plan). z.steps) st.requires.is in
    let f = c.if-bits-p.false in
    let g = c.if-bytes-p.true in
    rw (le-ltb _ _ c.if-decisions-lt-FRAME_WORDS.false, le-ltb st.args.bits (frame_steps st.args.p.table + 16) (omega arith), lt-ltb st.args.bytes (load_bytes st.args.p.table) (omega arith))

pub returns-then-counts-p : goal.returns-then-counts-p
returns-then-counts-p c =
    let st = c in
    let d = ap (λ (z : Plan). z.bytes) st.requires.is in
    let e = ap (λ (z : Plan). z.steps) st.requires.is in
    let n = ap (λ (z : Plan). z.valid_slots) st.requires.is in
    let f = c.if-bits-p.false in
    let g = c.if-bytes-p.false in
    let h = c.if-counts-p.true in
    rw (le-ltb _ _ c.if-decisions-lt-FRAME_WORDS.false, le-ltb st.args.bits (frame_steps st.args.p.table + 16) (omega arith), le-ltb st.args.bytes (load_bytes st.args.p.table) (omega arith), lt-ltb st.args.counts (valid_total st.args.p.table) (omega arith))

pub returns : goal.returns
returns c =
    let st = c in
    let d = ap (λ (z : Plan). z.bytes) st.requires.is in
    let e = ap (λ (z : Plan). z.steps) st.requires.is in
    let n = ap (λ (z : Plan). z.valid_slots) st.requires.is in
    let f = c.if-bits-p.false in
    let g = c.if-bytes-p.false in
    let h = c.if-counts-p.false in
    rw (le-ltb _ _ c.if-decisions-lt-FRAME_WORDS.false, le-ltb st.args.bits (frame_steps st.args.p.table + 16) (omega arith), le-ltb st.args.bytes (load_bytes st.args.p.table) (omega arith), le-ltb st.args.counts (valid_total st.args.p.table) (omega arith))
