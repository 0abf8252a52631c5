use native.Mathlib.Omega.{arith}
use mathlib.Core.Path.{◌≡◌}
use Prim.Native.Nat.{◌-◌}
use Rattle.decode_strain.proofs.WindowLaws.{windows_few, windows_none, windows_next}
use Rattle.decode_strain.proofs.count_windows.Goals as goal

pub loop-i-init : goal.loop-i-init
loop-i-init c =
    let start = c in
    (omega arith, windows_none start.args.marks.now start.args.bits.now)

pub window_mark-count-requires : goal.window_mark-count-requires
window_mark-count-requires c =
    let tested = c in
    let start = tested in
    let l = tested.loop-i-test.true in
    let f = start.requires.2 in
    (omega arith, λ j h. start.requires.3 j (omega arith))

pub overflow_add-count : goal.overflow_add-count
overflow_add-count c =
    let tested = c in
    let at = tested.loop-i in
    let start = tested in
    let l = tested.loop-i-test.true in
    let f = start.requires.0 in
    let few = windows_few start.args.marks.now start.args.bits.now at.i in
    let e = at.invariant.1 in
    let r = c.window_mark-count.ensures.1 in
    record { fits = omega arith }

pub loop-i-preserved : goal.loop-i-preserved
loop-i-preserved c =
    let tested = c in
    let at = tested.loop-i in
    let start = tested in
    let l = tested.loop-i-test.true in
    (omega arith, windows_next start.args.marks.now start.args.bits.now at.i at.count c.window_mark-count.result at.invariant.1 c.window_mark-count.ensures.0)

pub returns : goal.returns
returns c =
    let at = c.loop-i in
    let e : at.i ≡ c.args.n = omega arith in
    rw e at at.invariant.1
