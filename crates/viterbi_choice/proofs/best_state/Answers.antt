use mathlib.Core.Path.{◌≡◌, refl, ap}
use mathlib.Core.Bool.{Bool, true, false, cond, not}
use mathlib.Core.List.{List}
use Prim.Native.Nat.{ℕ, suc, ◌+◌, ◌-◌, ◌*◌, ◌≤◌}
use native.Mathlib.Omega.{arith}
use lib.ListN.{get_or}
use lib.Ieee.{Float, nan}
use Rattle.trellis.specs.Step as trellis
use Rattle.trellis.specs.Isdb.{rule}
use Rattle.viterbi_choice.proofs.best_state.Goals as goal
use Rattle.viterbi_choice.proofs.best_state.Goals.{then-not-pm-best, else-not-pm-best}

more : (pm : List Float) (b s : ℕ) (t : Bool) → 1 ≤ s → b ≡ trellis.best rule pm (s - 1) → trellis.takes rule (get_or pm b nan) (get_or pm s nan) ≡ t
    → cond t s b ≡ trellis.best rule pm (s + 1 - 1)
unfolding trellis.best
more pm b s t h is_b test =
    let e : s + 1 - 1 ≡ suc (s - 1) = omega arith in
    let f : suc (s - 1) ≡ s = omega arith in
    rw e (cc)

pub loop-s-init : goal.loop-s-init
unfolding trellis.best
loop-s-init c = (refl, omega arith, omega arith, omega arith, refl)

pub loop-s-preserved : goal.loop-s-preserved
loop-s-preserved c =
    let at = c in
    let inv = at.loop-s.invariant in
    let step = more at.args.pm.now at.loop-s.best at.loop-s.s in
    elim c.if-not-pm-best.branch [
      | then-not-pm-best w ↦ rw w.best-is (inv.0, omega arith, omega arith, omega arith, step true inv.1 inv.4 (ap not w.if-not-pm-best.true))
      | else-not-pm-best w ↦ rw w.best-is (inv.0, omega arith, omega arith, omega arith, step false inv.1 inv.4 (ap not w.if-not-pm-best.false))
    ]

pub returns : goal.returns
returns c =
    let at = c in
    let inv = at.loop-s.invariant in
    let h = at.args.h in
    let e : at.loop-s.s ≡ 2 * h = omega arith in
    (omega arith, (rw e at inv).4)
