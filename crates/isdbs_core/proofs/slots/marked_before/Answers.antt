use Prim.Native.Nat.{◌-◌}
use Rattle.isdbs_core.specs.SymbolLaws.{marked_more}
use Rattle.isdbs_core.specs.Symbols.{marked_before}
use mathlib.Core.Path.{◌≡◌, refl}
use native.Mathlib.Omega.{arith}
use Rattle.isdbs_core.proofs.slots.marked_before.Goals as goal
use Rattle.isdbs_core.proofs.slots.marked_before.Goals.{then-is_marked, else-is_marked}

pub loop-j-init : goal.loop-j-init
unfolding marked_before
loop-j-init c = (omega arith, omega arith, refl)

pub is_marked-requires : goal.is_marked-requires
is_marked-requires c = tt

pub loop-j-preserved : goal.loop-j-preserved
loop-j-preserved c =
    let at = c in
    let more = marked_more at.args.c at.loop-j.j c.is_marked.result c.is_marked.ensures in
    let inv = at.loop-j.invariant in
    elim c.if-is_marked.branch [
      | then-is_marked w ↦ let e = rw w.if-is_marked.true at more in rw w.n-is (omega arith, omega arith, omega arith)
      | else-is_marked w ↦ let e = rw w.if-is_marked.false at more in rw w.n-is (omega arith, omega arith, omega arith)
    ]

pub returns : goal.returns
returns c =
    let at = c in
    let e : at.loop-j.j ≡ at.args.k = omega arith in
    rw e at at.loop-j.invariant.2
