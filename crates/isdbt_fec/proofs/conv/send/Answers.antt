use mathlib.Core.Path.{◌≡◌, refl}
use Prim.Native.Nat.{◌-◌}
use native.Mathlib.Omega.{arith}
use borrow.Author.Rules.{rules}
use Rattle.isdbt_table.specs.WrittenLaws.{written_none, written_next}
use Rattle.isdbt_fec.proofs.conv.send.Goals as goal

pub loop-j-init : goal.loop-j-init
loop-j-init c = (search rules, written_none _ _)

pub bounds-m-k : goal.bounds-m-k
bounds-m-k c = c.requires.2 c.loop-j.j (search rules)

pub loop-j-preserved : goal.loop-j-preserved
loop-j-preserved c = (omega arith, written_next _ _ _ _ _ c.loop-j.invariant.1 (omega arith) refl)

pub shape_of-out : goal.shape_of-out
shape_of-out c = c.loop-j.invariant.1.long

pub returns : goal.returns
returns c =
    let at = c in
    let e : at.loop-j.j ≡ at.args.n = omega arith in
    rw e at at.loop-j.invariant.1.front
