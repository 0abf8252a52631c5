use borrow.Author.Rules.{rules}
use native.Mathlib.Omega.{arith}
use Prim.Native.Nat.{◌-◌}
use mathlib.Core.Path.{◌≡◌, refl, ◌∙◌}
use lib.ListN.{length-set}
use Rattle.decode_strain.specs.CountingLaws.{count_few}
use Rattle.decode_strain.proofs.Slots.{run_count, within, marks_from, bits_from_lem, run_first, run_few, run_next}
use Rattle.decode_strain.proofs.count_run.Goals as goal

pub loop-v-init : goal.loop-v-init
loop-v-init c =
    let st = c in
    (search rules, refl, run_first st.args.w st.args.marks.now st.args.bits.now st.args.start st.args.counts.now st.requires.6)

pub overflow_mul-from : goal.overflow_mul-from
overflow_mul-from c =
    let st = c in
    let at = c.loop-v in
    let l = c.loop-v-test.true in
    let q = within st.args.w at.v st.args.n st.requires.1 st.requires.2 l in
    record { fits = omega arith }

pub slice_bounds-count_slot-count : goal.slice_bounds-count_slot-count
slice_bounds-count_slot-count c =
    let st = c in
    let at = c.loop-v in
    let l = c.loop-v-test.true in
    let q = within st.args.w at.v st.args.n st.requires.1 st.requires.2 l in
    omega arith

pub slice_bounds-count_slot-start : goal.slice_bounds-count_slot-start
slice_bounds-count_slot-start c =
    let st = c in
    let at = c.loop-v in
    let l = c.loop-v-test.true in
    let q = within st.args.w at.v st.args.n st.requires.1 st.requires.2 l in
    omega arith

pub slice_bounds-count_slot-count-in-loop-v : goal.slice_bounds-count_slot-count-in-loop-v
slice_bounds-count_slot-count-in-loop-v c =
    let st = c in
    let at = c.loop-v in
    let l = c.loop-v-test.true in
    let q = within st.args.w at.v st.args.n st.requires.1 st.requires.2 l in
    omega arith

pub slice_bounds-count_slot-start-in-loop-v : goal.slice_bounds-count_slot-start-in-loop-v
slice_bounds-count_slot-start-in-loop-v c =
    let st = c in
    let at = c.loop-v in
    let l = c.loop-v-test.true in
    let q = within st.args.w at.v st.args.n st.requires.1 st.requires.2 l in
    omega arith

pub count_slot-slot-requires : goal.count_slot-slot-requires
count_slot-slot-requires c =
    let st = c in
    let at = c.loop-v in
    let l = c.loop-v-test.true in
    let q = within st.args.w at.v st.args.n st.requires.1 st.requires.2 l in (
      st.requires.0,
      st.requires.1,
      marks_from st.args.w at.v st.args.n st.args.marks.now q st.requires.3,
      marks_from st.args.w at.v st.args.n st.args.bits.now q st.requires.4,
      bits_from_lem st.args.w at.v st.args.n st.args.bits.now q st.requires.4 st.requires.5,
      at.invariant.2.small,
    )

pub overflow_add-sum : goal.overflow_add-sum
overflow_add-sum c =
    let tested = c in
    let looped = tested in
    let st = looped in
    let at = looped.loop-v in
    let l = tested.loop-v-test.true in
    let q = within st.args.w at.v st.args.n st.requires.1 st.requires.2 l in
    let ks = c.count_slot-slot in
    let fs = run_few st.args.w st.args.marks.now st.args.bits.now st.args.start st.args.counts.now at.v (run_count at.sum at.state) at.counts at.invariant.2 in
    let cf = count_few _ _ at.state st.args.w ks.result ks.ensures in
    record { fits = omega arith }

pub loop-v-preserved : goal.loop-v-preserved
loop-v-preserved c =
    let tested = c in
    let looped = tested in
    let st = looped in
    let at = looped.loop-v in
    let l = tested.loop-v-test.true in
    let ks = c.count_slot-slot in (
      omega arith,
      length-set at.counts at.v ks.result.count ∙ at.invariant.1,
      run_next st.args.w st.args.marks.now st.args.bits.now st.args.start st.args.counts.now at.v at.sum at.state at.counts ks.result (omega arith) at.invariant.2 ks.ensures,
    )

pub returns : goal.returns
returns c =
    let e : c.loop-v.v ≡ c.args.n = omega arith in
    rw e at c.loop-v.invariant.2
