use mathlib.Core.Path.{◌≡◌, ap}
use Prim.Native.Nat.{ℕ, ◌+◌, ◌*◌, ◌/◌}
use native.Mathlib.Omega.{arith}
use lib.ListN.{get_or}
use Rattle.best_backward.proofs.ahead.Goals as goal

pub overflow_add-result-2 : goal.overflow_add-result-2
overflow_add-result-2 c =
    let number = c in
    let start = number in
    let a = start.args in
    let x = start.requires.4 (32 * a.u + a.s.j) in
    let y = start.requires.5 number.number-n.result in
    omega arith

pub returns : goal.returns
returns c =
    let number = c in
    let start = number in
    let a = start.args in
    let p = start.requires in
    let j : (2 * a.s.j + a.s.b) / 2 ≡ a.s.j = omega arith in
    rw j (ap (λ (l : ℕ). get_or a.m.now l 0 + get_or a.after.now (32 * a.u + a.s.j) 0) number.number-n.ensures.1)
