use native.Mathlib.Omega.{arith}
use mathlib.Core.Path.{◌≡◌}
use Prim.Native.Nat.{◌+◌, ◌-◌, ◌≤◌}
use Rattle.decode_strain.proofs.WindowLaws.{windows_few, windows_none, windows_more}
use lib.ListN.{length-drop}
use lib.Seq.{get_or-drop}
use Rattle.isdbs_metrics.specs.FrameRunLaws.{tail_is}
use Rattle.decode_strain.proofs.count_rest.Goals as goal

pub loop-k-init : goal.loop-k-init
loop-k-init c =
    let start = c in
    (omega arith, windows_none start.args.marks.now start.args.bits.now)

pub count_windows-few-requires : goal.count_windows-few-requires
count_windows-few-requires c =
    let piece = c in
    let tested = piece in
    let at = tested.loop-k in
    let start = tested in
    let ms = start.args.marks.now in
    let us = start.args.bits.now in
    let l = tested.loop-k-test.true in
    let p = piece.piece-len.ensures.0 in
    let gm = start.requires.1 in
    let gu = start.requires.2 in
    let dm = length-drop at.k ms in
    let du = length-drop at.k us in
    rw (tail_is at.k ms, tail_is at.k us) (
      piece.piece-len.ensures.1,
      omega arith,
      omega arith,
      λ j h. rw (get_or-drop at.k us j 0) (start.requires.3 (at.k + j) (omega arith)),
    )

pub overflow_add-count : goal.overflow_add-count
overflow_add-count c =
    let piece = c in
    let tested = piece in
    let at = tested.loop-k in
    let start = tested in
    let l = tested.loop-k-test.true in
    let p = piece.piece-len.ensures.1 in
    let g = start.requires.0 in
    let few = windows_few start.args.marks.now start.args.bits.now at.k in
    let e = at.invariant.1 in
    let f : c.count_windows-few.result ≤ piece.piece-len.result = rw c.count_windows-few.ensures (windows_few _ _ _) in
    record { fits = omega arith }

pub loop-k-smaller : goal.loop-k-smaller
loop-k-smaller c =
    let piece = c in
    let l = piece.loop-k-test.true in
    let p = piece.piece-len.ensures.0 in
    let z = piece.piece-len.ensures.2 (omega arith) in
    omega arith

pub loop-k-preserved : goal.loop-k-preserved
loop-k-preserved c =
    let piece = c in
    let tested = piece in
    let at = tested.loop-k in
    let start = tested in
    let ms = start.args.marks.now in
    let us = start.args.bits.now in
    let l = tested.loop-k-test.true in
    let p = piece.piece-len.ensures.0 in
    let r = rw (tail_is at.k ms, tail_is at.k us) at c.count_windows-few.ensures in
    (omega arith, windows_more ms us at.k piece.piece-len.result at.count c.count_windows-few.result at.invariant.1 r)

pub returns : goal.returns
returns c =
    let at = c.loop-k in
    let e : at.k ≡ c.args.n = omega arith in
    rw e at at.invariant.1
