use Prim.Native.Nat.{◌-◌}
use Rattle.trellis.specs.WrittenLaws.{written_none, written_more, written_whole}
use Rattle.isdbs_marks.specs.Marks.{mark}
use Rattle.std.specs.Prelude.{None}
use lib.ListN.{length-set}
use mathlib.Core.Path.{◌≡◌, ap}
use native.Mathlib.Omega.{arith}
use Rattle.isdbs_marks.proofs.marks.Invariants.{marks}
use Rattle.isdbs_marks.proofs.marks.Goals as goal

pub no_marks-slots-requires : goal.no_marks-slots-requires
no_marks-slots-requires c = tt

pub loop-s-init : goal.loop-s-init
loop-s-init c = (omega arith, rw c.no_marks-slots.ensures, written_none (mark None) (marks c.args.t) c.no_marks-slots.result)

pub mark_at-m-requires : goal.mark_at-m-requires
mark_at-m-requires c = tt

pub loop-s-preserved : goal.loop-s-preserved
loop-s-preserved c =
    let at = c in
    let t = at.args.t in (
      omega arith,
      simp length-set at.loop-s.invariant.1,
      written_more (mark None) (marks t) at.loop-s.s at.loop-s.slots _ (omega arith) at.loop-s.invariant.2 (ap mark c.mark_at-m.ensures),
    )

pub returns : goal.returns
returns c =
    let at = c in
    let t = at.args.t in
    let e : at.loop-s.s ≡ 48 = omega arith in
    written_whole (mark None) (marks t) 48 at.loop-s.slots at.loop-s.invariant.1 (rw e at at.loop-s.invariant.2)
