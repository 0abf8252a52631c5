use mathlib.Core.Path.{◌≡◌, ◌∙◌}
use Prim.Native.Nat.{◌-◌, ◌*◌, ◌/◌, ◌<◌}
use native.Mathlib.Omega.{arith}
use borrow.Author.Rules.{rules}
use lib.ListN.{length}
use Rattle.isdbt_table.specs.NumberLaws.{numbers}
use Rattle.isdbt_steps.specs.SoftLaws.{placed_steps_lem}
use Rattle.isdbt_fec.proofs.Decode.{count_most}
use Rattle.isdbt_fec.proofs.Turns.{bit_count, bits_twice, readable, readable_alone}
use Rattle.isdbt_fec.proofs.Decoding.{decoding_none, decoding_ready, decoding_block, decoding_same, decoded}
use Rattle.isdbt_fec.proofs.conv.decode_periods.Goals as goal

pub places_of-places-requires : goal.places_of-places-requires
places_of-places-requires c =
    let made = c in
    let a = made.args in
    let r = readable a.rate _ (length a.llrs.now) made.new-p.ensures in
    (r.eight, r.in_order)

pub start_at-pm-requires : goal.start_at-pm-requires
start_at-pm-requires c = tt

pub nonzero_div-count : goal.nonzero_div-count
nonzero_div-count c =
    let made = c in
    let r = (numbers made.args.rate _ made.new-p.ensures).ranges in
    omega arith

pub overflow_mul-count : goal.overflow_mul-count
overflow_mul-count c =
    let made = c in
    let a = made.args in
    let count = bit_count a.rate _ (length a.llrs.now) made.new-p.ensures in
    let most = count_most a.rate (length a.llrs.now) in
    omega arith

pub loop-i-init : goal.loop-i-init
loop-i-init c =
    let made = c in
    let start = made in
    let a = start.args in
    let e = made.new-p.ensures in
    let count = bit_count a.rate _ (length a.llrs.now) e in
    let most = count_most a.rate (length a.llrs.now) in
    let pre = start.requires in
    (search rules, omega arith, rw (bits_twice a.rate _ _ e) (readable_alone (readable a.rate _ _ e)), decoding_none _ _ _ _ _ _ pre.0 pre.1 pre.2 (omega arith))

pub soft_block-requires : goal.soft_block-requires
soft_block-requires c =
    let inv = c.loop-i.invariant in
    let r = inv.2 in
    let len = c.block_of-len.ensures in
    let inside = c.loop-i-test.true in
    (r.eight, r.least, r.most, len.2 (omega arith), len.1, omega arith, λ k h. r.there k (omega arith))

pub run_steps-at-requires : goal.run_steps-at-requires
run_steps-at-requires c =
    let made = c in
    let blocked = made in
    let inv = blocked.loop-i.invariant in
    let len = blocked.block_of-len in
    let bound = len.ensures in
    let inside = blocked.loop-i-test.true in
    let long = made.soft_block.ensures.0 in
    let d = decoding_ready inv.3 len.result (omega arith) in
    (d.0, d.1, d.2, d.3, d.4, omega arith, omega arith)

pub overflow_add-i : goal.overflow_add-i
overflow_add-i c =
    let blocked = c in
    let at = blocked in
    let inv = at.loop-i.invariant in
    let len = blocked.block_of-len.ensures in
    let inside = blocked.loop-i-test.true in
    omega arith

pub loop-i-smaller : goal.loop-i-smaller
loop-i-smaller c =
    let blocked = c in
    let len = blocked.block_of-len.ensures in
    let inside = blocked.loop-i-test.true in
    let some : 0 < blocked.block_of-len.result = len.2 (omega arith) in
    omega arith

pub loop-i-preserved : goal.loop-i-preserved
loop-i-preserved c =
    let run-steps = c in
    let soft-block = run-steps in
    let blocked = soft-block in
    let at = blocked in
    let inv = at.loop-i.invariant in
    let len = blocked.block_of-len.ensures in
    let inside = blocked.loop-i-test.true in
    let soft = soft-block.soft_block.ensures in
    (omega arith, inv.1, inv.2, decoding_block inv.3 (omega arith) soft.1 run-steps.run_steps-at.ensures)

pub end_call-requires : goal.end_call-requires
end_call-requires c =
    let at = c in
    let d = at.loop-i.invariant.3 in
    let enough = d.enough in
    let few = d.few in
    let sum = d.sum in
    let words = d.words_long in
    let bits = d.bits_long in
    let places = d.places in
    (enough.most, omega arith, omega arith, omega arith)

pub shape_of-decisions : goal.shape_of-decisions
shape_of-decisions c =
    let end-call = c in
    let at = end-call in
    end-call.end_call.auto.decisions ∙ at.loop-i.invariant.3.words_long

pub shape_of-out : goal.shape_of-out
shape_of-out c =
    let end-call = c in
    let at = end-call in
    end-call.end_call.auto.out ∙ at.loop-i.invariant.3.bits_long

pub returns : goal.returns
returns c =
    let called = c in
    let at = called in
    let made = at in
    let a = made.args in
    let p = made.new-p in
    let end : at.loop-i.i ≡ length a.llrs.now / p.result.n * p.result.period = omega arith in
    let started = at in
    let placed = started in
    let r = at.loop-i.invariant.2 in
    let named = decoding_same at.loop-i.invariant.3 (placed_steps_lem p.result.period p.result.n p.result.order placed.places_of-places.result a.llrs.now r.least r.most placed.places_of-places.ensures) in
    decoded a.rate _ p.ensures a.llrs.now named end started.start_at-pm.ensures called.end_call.ensures
