-- `slot_part` meets its contract.
use Prim.Native.Nat.{ℕ, ◌+◌, ◌-◌, ◌*◌}
use lib.ListN.{take, drop}
use Rattle.refusal.specs.Rows.{accepted}
use Rattle.refusal.proofs.RowLaws.{is_refused}
use Rattle.isdbs_slot_part.proofs.PartLaws.{part_whole, part_is}
use Rattle.isdbs_slot_part.specs.SlotPart.{slot_part_answer}
use mathlib.Core.Path.{◌≡◌, sym, ◌∙◌, ap}
use native.Mathlib.Omega.{arith}
use Rattle.isdbs_slot_part.proofs.slot_part.Goals as goal

pub slot_part_answer-answer-requires : goal.slot_part_answer-answer-requires
slot_part_answer-answer-requires c = tt

pub returns-in_default : goal.returns-in_default
returns-in_default c =
    let st = c in
    let bytes = st.args.bytes.now in
    let t = st.args.t in
    let k = st.args.k in
    rw (is_refused (slot_part_answer bytes t k) (λ q. c.in_default.not-Ok tt (st.slot_part_answer-answer.ensures ∙ q)))

pub overflow_mul-result : goal.overflow_mul-result
overflow_mul-result c =
    let st = c in
    let bytes = st.args.bytes.now in
    let t = st.args.t in
    let k = st.args.k in
    let ok = ap accepted (sym st.slot_part_answer-answer.ensures ∙ c.in-Ok.is) in
    let p = part_whole bytes t k ok in omega arith

pub overflow_mul-result-2 : goal.overflow_mul-result-2
overflow_mul-result-2 c =
    let st = c in
    let bytes = st.args.bytes.now in
    let t = st.args.t in
    let k = st.args.k in
    let ok = ap accepted (sym st.slot_part_answer-answer.ensures ∙ c.in-Ok.is) in
    let p = part_whole bytes t k ok in omega arith

pub overflow_add-result : goal.overflow_add-result
overflow_add-result c =
    let st = c in
    let bytes = st.args.bytes.now in
    let t = st.args.t in
    let k = st.args.k in
    let ok = ap accepted (sym st.slot_part_answer-answer.ensures ∙ c.in-Ok.is) in
    let p = part_whole bytes t k ok in omega arith

pub slice_bounds-result-end-2 : goal.slice_bounds-result-end-2
slice_bounds-result-end-2 c =
    let st = c in
    let bytes = st.args.bytes.now in
    let t = st.args.t in
    let k = st.args.k in
    let ok = ap accepted (sym st.slot_part_answer-answer.ensures ∙ c.in-Ok.is) in
    let p = part_whole bytes t k ok in omega arith

pub returns : goal.returns
returns c =
    let st = c in
    let bytes = st.args.bytes.now in
    let t = st.args.t in
    let k = st.args.k in
    let ok = ap accepted (sym st.slot_part_answer-answer.ensures ∙ c.in-Ok.is) in
    let p = part_whole bytes t k ok in
    let w : 203 * k + 203 - 203 * k ≡ 203 = omega arith in
    ap (λ (n : ℕ). take n (drop (203 * k) bytes)) w ∙ sym (part_is bytes t k ok)
