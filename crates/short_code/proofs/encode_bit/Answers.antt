-- `short_code::encode_bit` meets its contract.
use mathlib.Core.Path.{refl}
use native.Mathlib.Omega.{arith}
use Prim.Native.Nat.{◌-◌, ◌/◌, ◌%◌}
use Rattle.short_code.specs.RegisterLaws.{register}
use Rattle.short_code.proofs.Coded.{label_parts}
use Rattle.short_code.proofs.encode_bit.Goals as goal

pub overflow_mul-result : goal.overflow_mul-result
overflow_mul-result c =
    let a = c.args in
    let r = register a.h (a.u % 2) (a.state / 2) (omega arith) (omega arith) in
    omega arith

pub overflow_add-result : goal.overflow_add-result
overflow_add-result c =
    let a = c.args in
    let r = register a.h (a.u % 2) (a.state / 2) (omega arith) (omega arith) in
    omega arith

pub overflow_cast-result : goal.overflow_cast-result
overflow_cast-result c =
    let a = c.args in
    let r = register a.h (a.u % 2) (a.state / 2) (omega arith) (omega arith) in
    omega arith

pub returns : goal.returns
returns c =
    let a = c.args in
    let l = label_parts a.code (a.u % 2) a.state c.label-pair.result c.label-pair.ensures.1 in
    let r = register a.h (a.u % 2) (a.state / 2) (omega arith) (omega arith) in
    (l.0, l.1, refl, r)
