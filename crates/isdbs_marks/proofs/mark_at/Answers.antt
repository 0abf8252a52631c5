use Prim.Native.Nat.{◌-◌, ◌<◌}
use Rattle.isdbs_tables.proofs.EntryLaws.{no_entry}
use Rattle.isdbs_marks.proofs.EntryMarks.{mark_more, mark_end}
use borrow.Author.Tests.{le-ltb, lt-ltb}
use lib.ListN.{length, get_or, length-map}
use mathlib.Core.Path.{◌≡◌, refl, sym, ◌∙◌}
use native.Mathlib.Omega.{arith}
use Rattle.isdbs_marks.proofs.mark_at.Goals as goal

pub loop-i-init : goal.loop-i-init
loop-i-init c = (omega arith, refl)

pub returns-then-k-n : goal.returns-then-k-n
returns-then-k-n c =
    let at = c in
    let es = at.args.t.entries in
    let four : length es ≡ 4 = omega arith in
    let h : at.loop-i.i < length es = omega arith in
    let n = (get_or es at.loop-i.i no_entry).slots in
    c.mark_in.ensures ∙ sym (simp (lt-ltb at.loop-i.k n c.if-k-n.true) at (mark_more es at.loop-i.i at.loop-i.k h)) ∙ at.loop-i.invariant.1

pub loop-i-preserved : goal.loop-i-preserved
loop-i-preserved c =
    let at = c in
    let es = at.args.t.entries in
    let four : length es ≡ 4 = omega arith in
    let h : at.loop-i.i < length es = omega arith in
    let n = (get_or es at.loop-i.i no_entry).slots in (
      omega arith,
      sym (simp (le-ltb at.loop-i.k n c.if-k-n.false) at (mark_more es at.loop-i.i at.loop-i.k h)) ∙ at.loop-i.invariant.1,
    )

pub returns : goal.returns
returns c =
    let at = c in
    let es = at.args.t.entries in
    let four : length es ≡ 4 = omega arith in
    sym (mark_end es at.loop-i.i at.loop-i.k (omega arith)) ∙ at.loop-i.invariant.1
