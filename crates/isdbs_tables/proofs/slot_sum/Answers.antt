use Prim.Native.Nat.{◌-◌, ◌<◌}
use Rattle.isdbs_tables.proofs.EntryLaws.{sum_more, sum_end}
use lib.ListN.{length, length-map}
use mathlib.Core.Path.{◌≡◌}
use native.Mathlib.Omega.{arith}
use Rattle.isdbs_tables.proofs.slot_sum.Goals as goal

pub loop-i-init : goal.loop-i-init
loop-i-init c = (omega arith, omega arith, omega arith)

pub loop-i-preserved : goal.loop-i-preserved
loop-i-preserved c =
    let at = c in
    let es = at.args.t.entries in
    let four : length es ≡ 4 = omega arith in
    let h : at.loop-i.i < length es = omega arith in
    let e = sum_more es at.loop-i.i at.loop-i.sum h in (
      omega arith,
      omega arith,
      omega arith,
    )

pub returns : goal.returns
returns c =
    let at = c in
    let es = at.args.t.entries in
    let four : length es ≡ 4 = omega arith in
    let e = sum_end es at.loop-i.i (omega arith) in
    omega arith
