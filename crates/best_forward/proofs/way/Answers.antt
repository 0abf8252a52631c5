use mathlib.Core.Path.{◌≡◌, ap}
use Prim.Native.Nat.{ℕ, ◌+◌, ◌*◌, ◌/◌, ◌%◌}
use native.Mathlib.Omega.{arith}
use lib.ListN.{get_or}
use Rattle.best_grid.specs.Costs.{through}
use Rattle.best_forward.proofs.way.Goals as goal

pub overflow_add-result-2 : goal.overflow_add-result-2
overflow_add-result-2 c =
    let start = c in
    let a = start.args in
    let r = start.requires.4 (2 * a.j + a.b) in
    let s = start.requires.5 c.number-n.result in
    omega arith

pub returns : goal.returns
unfolding through
returns c =
    let start = c in
    let a = start.args in
    let p = start.requires in
    let j : (32 * a.u + a.j) % 32 ≡ a.j = omega arith in
    let u : (32 * a.u + a.j) / 32 ≡ a.u = omega arith in
    rw (j, u) (ap (λ (l : ℕ). get_or a.d.now (2 * a.j + a.b) 0 + get_or a.m.now l 0) c.number-n.ensures.1)
