use mathlib.Core.Path.{◌≡◌}
use Prim.Native.Nat.{◌-◌, ◌/◌}
use native.Mathlib.Omega.{arith}
use borrow.Author.Rules.{rules}
use lib.ListN.{length}
use Rattle.isdbt_table.specs.NumberLaws.{numbers}
use Rattle.isdbt_fec.proofs.Periods.{sendable, coded_none, coded_below, part_long, tail_long, coded_next, coded_all}
use Rattle.isdbt_fec.proofs.conv.encode_periods.Goals as goal

pub nonzero_div-b-end : goal.nonzero_div-b-end
nonzero_div-b-end c =
    let r = (numbers c.args.rate _ c.new-p.ensures).ranges in
    omega arith

pub loop-b-init : goal.loop-b-init
loop-b-init c =
    let start = c in
    let a = start.args in
    let e = c.new-p.ensures in
    (search rules, sendable a.rate _ e a.state a.bits.now a.out.now start.requires.2, coded_none a.rate _ e _ _ _)

pub overflow_mul-from : goal.overflow_mul-from
overflow_mul-from c =
    let i = c.loop-b.invariant.1.inside _ c.loop-b-test.true in
    omega arith

pub overflow_add-to : goal.overflow_add-to
overflow_add-to c =
    let i = c.loop-b.invariant.1.inside _ c.loop-b-test.true in
    omega arith

pub overflow_mul-at : goal.overflow_mul-at
overflow_mul-at c =
    let i = c.loop-b.invariant.1.inside _ c.loop-b-test.true in
    omega arith

pub slice_bounds-encode_period-count : goal.slice_bounds-encode_period-count
slice_bounds-encode_period-count c =
    let i = c.loop-b.invariant.1.inside _ c.loop-b-test.true in
    omega arith

pub slice_bounds-encode_period-start : goal.slice_bounds-encode_period-start
slice_bounds-encode_period-start c =
    let i = c.loop-b.invariant.1.inside _ c.loop-b-test.true in
    omega arith

pub slice_bounds-encode_period-end : goal.slice_bounds-encode_period-end
slice_bounds-encode_period-end c =
    let i = c.loop-b.invariant.1.inside _ c.loop-b-test.true in
    omega arith

pub encode_period-q-requires : goal.encode_period-q-requires
encode_period-q-requires c =
    let start = c in
    let at = c.loop-b in
    let i = at.invariant.1.inside _ c.loop-b-test.true in
    let part = part_long start.args.bits.now _ _ i.taken in
    (coded_below at.invariant.2 start.requires.0, rw part at.invariant.1.ranges.most)

pub slice_bounds-send-count : goal.slice_bounds-send-count
slice_bounds-send-count c =
    let i = c.loop-b.invariant.1.inside _ c.loop-b-test.true in
    omega arith

pub slice_bounds-send-start : goal.slice_bounds-send-start
slice_bounds-send-start c =
    let i = c.loop-b.invariant.1.inside _ c.loop-b-test.true in
    omega arith

pub slice_bounds-send-end : goal.slice_bounds-send-end
slice_bounds-send-end c =
    let i = c.loop-b.invariant.1.inside _ c.loop-b-test.true in
    omega arith

pub send-requires : goal.send-requires
send-requires c =
    let at = c.loop-b in
    let calls = at.invariant.1 in
    let i = calls.inside _ c.loop-b-test.true in
    let r = calls.ranges in
    (r.eight, tail_long at.out _ _ (omega arith), (λ j h. let g = calls.bits_below j h in omega arith))

pub overflow_step-b : goal.overflow_step-b
overflow_step-b c =
    let tested = c in
    let at = tested in
    let i = at.loop-b.invariant.1.inside _ tested.loop-b-test.true in
    omega arith

pub loop-b-preserved : goal.loop-b-preserved
loop-b-preserved c =
    let encode-period = c in
    let tested = encode-period in
    let looped = tested in
    let new = looped in
    let start = new in
    let a = start.args in
    let at = looped.loop-b in
    let i = at.invariant.1.inside _ tested.loop-b-test.true in
    let coded = encode-period.encode_period-q in
    let sent = c.send in
    (omega arith, at.invariant.1, coded_next a.rate _ new.new-p.ensures _ _ _ _ _ _ at.invariant.2 i _ coded.result.mother _ coded.ensures sent.ensures)

pub shape_of-out : goal.shape_of-out
shape_of-out c = c.loop-b.invariant.2.written.long

pub returns : goal.returns
returns c =
    let start = c in
    let a = start.args in
    let p = c.new-p in
    let end : c.loop-b.b ≡ length a.bits.now / p.result.period = omega arith in
    coded_all a.rate _ p.ensures a.state a.bits.now a.out.now _ _ start.requires.1 (rw end at c.loop-b.invariant.2)
