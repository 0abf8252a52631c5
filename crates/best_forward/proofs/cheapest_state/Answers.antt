use borrow.Author.Tests.{le-leb, lt-leb}
use mathlib.Core.Path.{◌≡◌, refl}
use mathlib.Core.Bool.{Bool, true, false, cond}
use mathlib.Core.List.{List}
use Prim.Native.Nat.{ℕ, suc, ◌+◌, ◌-◌, ◌≤◌}
use native.Mathlib.Omega.{arith}
use lib.Dec.{leb}
use lib.ListN.{get_or}
use Rattle.best_grid.specs.Costs.{cheapest}
use Rattle.best_forward.proofs.cheapest_state.Goals as goal
use Rattle.best_forward.proofs.cheapest_state.Goals.{then-d-s, else-d-s}

-- the best of one state more
more : (d : List ℕ) (b s : ℕ) (t : Bool) → 1 ≤ s → b ≡ cheapest d (s - 1) → leb (get_or d s 0) (get_or d b 0) ≡ t → cond t s b ≡ cheapest d (s + 1 - 1)
unfolding cheapest
more d b s t h is_b test =
    let e : s + 1 - 1 ≡ suc (s - 1) = omega arith in
    let f : suc (s - 1) ≡ s = omega arith in
    rw e (cc)

pub loop-s-init : goal.loop-s-init
unfolding cheapest
loop-s-init c = (omega arith, omega arith, omega arith, refl)

pub loop-s-preserved : goal.loop-s-preserved
loop-s-preserved c = let at = c in
    let inv = at.loop-s.invariant in
    let d = at.args.d.now in
    let b = at.loop-s.best in
    let s = at.loop-s.s in
    elim c.if-d-s.branch [
      | then-d-s w ↦ rw w.best-is (omega arith, omega arith, omega arith, more d b s true inv.0 inv.3 (le-leb (get_or d s 0) (get_or d b 0) w.if-d-s.true))
      | else-d-s w ↦ rw w.best-is (omega arith, omega arith, omega arith, more d b s false inv.0 inv.3 (lt-leb (get_or d s 0) (get_or d b 0) w.if-d-s.false))
    ]

pub returns : goal.returns
returns c = let at = c in
    let inv = at.loop-s.invariant in
    let e : at.loop-s.s ≡ 64 = omega arith in
    (omega arith, (rw e at inv).3)
