use borrow.Author.Rules.{rules}
use native.Mathlib.Omega.{arith}
use Prim.Native.Nat.{ℕ, ◌+◌, ◌-◌, ◌*◌, ◌/◌, ◌%◌, ◌^◌, ◌<◌}
use native.Mathlib.Nat.{mod-lt}
use lib.Dec.{lit<}
use lib.ListN.{get_or}
use mathlib.Core.Path.{◌≡◌, refl}
use Rattle.decode_strain.specs.CountingLaws.{slot, counted_first, count_few, label_is, counted_next}
use Rattle.decode_strain.proofs.count_steps.Goals as goal

bit_of_lem : (x : ℕ) → x % 2 < 2
bit_of_lem x = mod-lt x (lit< tt)

pub loop-i-init : goal.loop-i-init
loop-i-init c =
    (search rules, counted_first c.args.marks.now c.args.bits.now c.args.start c.requires.5)

pub overflow_cast-k : goal.overflow_cast-k
overflow_cast-k c =
    let st = c in
    let at = c.loop-i in
    let l = c.loop-i-test.true in
    let u = st.requires.4 at.i l in
    let s = at.invariant.1.small in
    omega arith

pub overflow_mul-k : goal.overflow_mul-k
overflow_mul-k c =
    let st = c in
    let at = c.loop-i in
    let l = c.loop-i-test.true in
    let u = st.requires.4 at.i l in
    let s = at.invariant.1.small in
    record { fits = omega arith }

pub overflow_add-k : goal.overflow_add-k
overflow_add-k c =
    let st = c in
    let at = c.loop-i in
    let l = c.loop-i-test.true in
    let u = st.requires.4 at.i l in
    let s = at.invariant.1.small in
    record { fits = omega arith }

pub bounds-labels-k : goal.bounds-labels-k
bounds-labels-k c =
    let st = c in
    let at = c.loop-i in
    let l = c.loop-i-test.true in
    let u = st.requires.4 at.i l in
    let s = at.invariant.1.small in
    omega arith

pub overflow_shr-count : goal.overflow_shr-count
overflow_shr-count c =
    let st = c in
    let at = c.loop-i in
    let l = c.loop-i-test.true in
    let u = st.requires.4 at.i l in
    let s = at.invariant.1.small in
    let x = (label_is st.args.marks.now st.args.bits.now st.args.start at.i at.count at.state at.invariant.1 u (64 * get_or st.args.bits.now at.i 0 + at.state) refl st.args.labels.now st.requires.0).1 in
    omega arith

pub overflow_add-count : goal.overflow_add-count
overflow_add-count c =
    let st = c in
    let at = c.loop-i in
    let l = c.loop-i-test.true in
    let u = st.requires.4 at.i l in
    let s = at.invariant.1.small in
    let few = count_few st.args.marks.now st.args.bits.now st.args.start at.i (slot at.count at.state) at.invariant.1 in
    let one = bit_of_lem (get_or st.args.marks.now at.i 0 / 2 ^ get_or st.args.labels.now (64 * get_or st.args.bits.now at.i 0 + at.state) 0) in
    record { fits = omega arith }

pub loop-i-preserved : goal.loop-i-preserved
loop-i-preserved c =
    let st = c in
    let at = c.loop-i in
    let l = c.loop-i-test.true in
    let u = st.requires.4 at.i l in
    let s = at.invariant.1.small in
    let x = (label_is st.args.marks.now st.args.bits.now st.args.start at.i at.count at.state at.invariant.1 u (64 * get_or st.args.bits.now at.i 0 + at.state) refl st.args.labels.now st.requires.0).0 in
    (omega arith, counted_next st.args.marks.now st.args.bits.now st.args.start at.i at.count at.state at.invariant.1 u (64 * get_or st.args.bits.now at.i 0 + at.state) refl _ x)

pub returns : goal.returns
returns c =
    let e : c.loop-i.i ≡ c.args.n = omega arith in
    rw e at c.loop-i.invariant.1
