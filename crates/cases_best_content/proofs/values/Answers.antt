use mathlib.Core.Path.{◌≡◌, refl}
use Prim.Native.Nat.{◌-◌}
use native.Mathlib.Omega.{arith}
use lib.ListN.{length-set}
use Rattle.cases_best_content.proofs.Laws.{ups_more, upright}
use Rattle.cases_best_content.proofs.values.Goals as goal

pub loop-k-init : goal.loop-k-init
loop-k-init c = (omega arith, refl, λ i h t. absurd (omega arith))

pub loop-k-preserved : goal.loop-k-preserved
loop-k-preserved c =
    let h = c in (
      omega arith,
      simp length-set h.loop-k.invariant.1,
      ups_more h.loop-k.xs h.args.sides.now h.loop-k.k c.value.result (omega arith) c.value.ensures h.loop-k.invariant.2,
    )

pub returns : goal.returns
returns c =
    let h = c in
    let e : h.loop-k.k ≡ 40 = omega arith in
    upright h.loop-k.xs h.args.sides.now (rw e at h.loop-k.invariant.2)
