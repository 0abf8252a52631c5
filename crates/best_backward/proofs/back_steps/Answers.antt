use lib.ListN.{get_or}
use lib.Dec.{leb}
use Rattle.trellis.specs.ListLaws.{bit_is}
use Rattle.viterbi_branches.specs.BranchLaws.{branch_numbers}
use Rattle.trellis.specs.Code.{label, output, tapped}
use Rattle.best_backward.proofs.Priced.{run_none, run_more, less_halved, back_halved, rivals_halved}
use mathlib.Core.Path.{◌≡◌, refl}
use Prim.Native.Nat.{◌+◌, ◌-◌, ◌≤◌, ◌<◌}
use native.Mathlib.Omega.{arith}
use Rattle.best_backward.proofs.back_steps.Goals as goal

pub loop-left-init : goal.loop-left-init
loop-left-init c = let a = c.args in
    let r = run_none a.metrics.now a.sides.now a.bits.now a.uncoded.now a.b.now a.d.now a.at a.count a.count refl in
    (omega arith, r.0, r.1)

pub overflow_add-k : goal.overflow_add-k
overflow_add-k c = let q = c.requires.0.sided in
    let w = c.loop-left.invariant.0 in
    omega arith

pub bounds-sides-k : goal.bounds-sides-k
bounds-sides-k c = let q = c.requires.0.sided in
    let w = c.loop-left.invariant.0 in
    omega arith

pub bounds-uncoded-k : goal.bounds-uncoded-k
bounds-uncoded-k c =
    let start = c in
    let q = start.requires.0.beside in
    let w = c.loop-left.invariant.0 in
    omega arith

pub bounds-bits-k : goal.bounds-bits-k
bounds-bits-k c =
    let at = c in
    let start = at in
    let q = start.requires.0.read in
    let w = at.loop-left.invariant.0 in
    omega arith

pub overflow_cast-u : goal.overflow_cast-u
overflow_cast-u c =
    let at = c in
    let start = at in
    let a = start.args in
    let asked = start.requires.0 in
    let left = at.loop-left.left in
    let k = a.at + (left - 1) in
    let q = asked.bit k in
    omega arith

pub kept_prices-kept-requires : goal.kept_prices-kept-requires
kept_prices-kept-requires c =
    let at = c in
    let start = at in
    let a = start.args in
    let asked = start.requires.0 in
    let left = at.loop-left.left in
    let k = a.at + (left - 1) in
    let q = asked.quadruples in
    let w = at.loop-left.invariant.0 in
    omega arith

pub turned_prices-turned-requires : goal.turned_prices-turned-requires
turned_prices-turned-requires c =
    let at = c in
    let start = at in
    let a = start.args in
    let asked = start.requires.0 in
    let left = at.loop-left.left in
    let k = a.at + (left - 1) in
    let q = asked.quadruples in
    let w = at.loop-left.invariant.0 in
    let z = asked.second k in
    let o = (bit_is (leb 16 (get_or a.sides.now k 0))).0 in
    (omega arith, omega arith)

pub back_step-requires : goal.back_step-requires
unfolding label output tapped
back_step-requires c =
    let low-prices = c in
    let turned-prices = low-prices in
    let at = turned-prices in
    let start = at in
    let a = start.args in
    let asked = start.requires.0 in
    let left = at.loop-left.left in
    let k = a.at + (left - 1) in
    let inv = at.loop-left.invariant in
    let n = a.count in
    let kp = turned-prices.kept_prices-kept in
    let tp = turned-prices.turned_prices-turned in
    let lp = low-prices.low_prices-low in
    let w = inv.0 in
    let hr : n - left ≤ n = omega arith in (
      asked.bit k,
      branch_numbers _ tt,
      back_halved a.metrics.now a.sides.now a.bits.now a.uncoded.now a.b.now a.d.now n start.requires.1 (n - left) (a.at + left) at.loop-left.b hr inv.1,
      rivals_halved a.metrics.now a.sides.now a.bits.now a.uncoded.now a.b.now a.d.now n start.requires.1 (n - left) (a.at + left) at.loop-left.d start.requires.2 hr inv.2,
      less_halved a.metrics.now a.sides.now a.bits.now a.uncoded.now a.b.now a.d.now kp.result tp.result lp.result kp.ensures.small lp.ensures,
      kp.ensures.small,
      tp.ensures.small,
    )

pub loop-left-preserved : goal.loop-left-preserved
loop-left-preserved c =
    let low-prices = c in
    let turned-prices = low-prices in
    let tested = turned-prices in
    let at = tested in
    let start = at in
    let a = start.args in
    let asked = start.requires.0 in
    let left = at.loop-left.left in
    let k = a.at + (left - 1) in
    let inv = at.loop-left.invariant in
    let n = a.count in
    let kp = turned-prices.kept_prices-kept in
    let tp = turned-prices.turned_prices-turned in
    let lp = low-prices.low_prices-low in
    let w = inv.0 in
    let test = tested.loop-left-test.true in
    let pos : 0 < left = omega arith in
    let r = run_more a.metrics.now a.sides.now a.bits.now a.uncoded.now a.b.now a.d.now a.at n left at.loop-left.b at.loop-left.d pos w inv.1 inv.2
    kp.result tp.result lp.result c.back_step.new.b c.back_step.new.d (get_or a.bits.now k 0) refl (asked.second k) kp.ensures tp.ensures lp.ensures c.back_step.ensures.0 c.back_step.ensures.1 in
    (omega arith, r.0, r.1)

pub returns : goal.returns
returns c =
    let at = c in
    let e : at.loop-left.left ≡ 0 = omega arith in
    let start = at in
    let a = start.args in
    let f : a.at + 0 ≡ a.at = omega arith in
    let g : a.count - 0 ≡ a.count = omega arith in
    let inv = rw e at at.loop-left.invariant in (
      rw (f, g) at inv.1,
      rw (f, g) at inv.2,
      rivals_halved a.metrics.now a.sides.now a.bits.now a.uncoded.now a.b.now a.d.now a.count start.requires.1 (a.count - at.loop-left.left) (a.at + at.loop-left.left) at.loop-left.d start.requires.2 (omega arith) at.loop-left.invariant.2,
    )
