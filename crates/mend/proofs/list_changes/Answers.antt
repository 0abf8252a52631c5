use mathlib.Core.Path.{◌≡◌, refl}
use Prim.Native.Nat.{◌-◌, ◌<◌}
use native.Mathlib.Omega.{arith}
use borrow.Author.Rules.{rules}
use lib.ListN.{length}
use Rattle.mend.proofs.Positions.{passed_whole, passed_room, filled_long, filled_more, filled_same}
use Rattle.mend.proofs.list_changes.Goals as goal
use Rattle.mend.proofs.list_changes.Goals.{then-mended-i, else-mended-i}

pub loop-i-init : goal.loop-i-init
loop-i-init c = (search rules, refl, refl)

pub offset_bounds-list-count : goal.offset_bounds-list-count
offset_bounds-list-count c =
    let at = c in
    let start = at in
    let xs = start.args.mended.now in
    let ys = start.args.bits.now in
    let h : at.loop-i.i < length xs = search rules in
    let k = passed_room xs ys start.requires.0 4 at.loop-i.i start.requires.2 h c.if-mended-i.true in
    omega arith

pub bounds-list-count : goal.bounds-list-count
bounds-list-count c =
    let at = c in
    let start = at in
    let xs = start.args.mended.now in
    let ys = start.args.bits.now in
    let h : at.loop-i.i < length xs = search rules in
    let k = passed_room xs ys start.requires.0 4 at.loop-i.i start.requires.2 h c.if-mended-i.true in
    let l = filled_long xs ys start.requires.0 start.args.list.now start.requires.2 start.requires.3 at.loop-i.i at.loop-i.list at.loop-i.invariant.2 in
    omega arith

pub overflow_add-count : goal.overflow_add-count
overflow_add-count c =
    let at = c in
    let start = at in
    let xs = start.args.mended.now in
    let ys = start.args.bits.now in
    let h : at.loop-i.i < length xs = search rules in
    let k = passed_room xs ys start.requires.0 4 at.loop-i.i start.requires.2 h c.if-mended-i.true in
    omega arith

pub loop-i-preserved : goal.loop-i-preserved
loop-i-preserved c =
    let at = c in
    let start = at in
    let xs = start.args.mended.now in
    let ys = start.args.bits.now in
    let inv = at.loop-i.invariant in
    let h : at.loop-i.i < length xs = search rules in
    elim c.if-mended-i.branch [
      | then-mended-i w ↦
          let f = filled_more xs ys start.requires.0 start.args.list.now start.requires.2 start.requires.3 at.loop-i.i at.loop-i.count at.loop-i.list h w.if-mended-i.true inv.1 inv.2 in
          rw (w.list-is, w.count-is) (search rules, f.0, f.1)
      | else-mended-i w ↦
          let f = filled_same xs ys start.requires.0 start.args.list.now start.requires.2 start.requires.3 at.loop-i.i at.loop-i.count at.loop-i.list h w.if-mended-i.false inv.1 inv.2 in
          rw (w.list-is, w.count-is) (search rules, f.0, f.1)
    ]

pub shape_of-list : goal.shape_of-list
shape_of-list c =
    let at = c in
    let start = at in
    filled_long start.args.mended.now start.args.bits.now start.requires.0 start.args.list.now start.requires.2 start.requires.3 at.loop-i.i at.loop-i.list at.loop-i.invariant.2

pub returns : goal.returns
returns c =
    let at = c in
    let start = at in
    let ys = start.args.bits.now in
    let e : at.loop-i.i ≡ length ys = omega arith in
    let whole = passed_whole start.args.mended.now ys start.requires.0 in
    let inv = rw e at at.loop-i.invariant in
    rw (← whole) (inv.1, inv.2)
