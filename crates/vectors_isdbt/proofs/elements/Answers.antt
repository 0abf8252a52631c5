-- `elements` meets its contract.
use Prim.Native.Nat.{◌*◌, ◌≤◌}
use native.Mathlib.Omega.{arith}
use native.Mathlib.Nat.{mul-le-mul_left}
use Rattle.vectors_isdbt.proofs.elements.Goals as goal

pub overflow_mul-result : goal.overflow_mul-result
overflow_mul-result c =
    let a = c.args in
    let most : a.per ≤ 14 = omega arith in
    let h : a.periods * a.per ≤ a.periods * 14 = mul-le-mul_left a.periods most in
    omega arith
