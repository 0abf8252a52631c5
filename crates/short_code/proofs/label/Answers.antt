-- `short_code::label` meets its contract: its bits are the parities of the register.
use native.Mathlib.Omega.{arith}
use Prim.Native.Nat.{◌-◌, ◌*◌}
use Rattle.short_code.specs.RegisterLaws.{register}
use Rattle.short_code.proofs.Coded.{label_is}
use Prim.Native.Nat.{◌-◌, ◌*◌}
use Rattle.short_code.proofs.label.Goals as goal

pub overflow_mul-register-2 : goal.overflow_mul-register-2
overflow_mul-register-2 c =
    let a = c.args in
    let r = register (2 * a.h) a.u a.s c.requires.3 c.requires.4 in
    omega arith

pub overflow_add-register : goal.overflow_add-register
overflow_add-register c =
    let a = c.args in
    let r = register (2 * a.h) a.u a.s c.requires.3 c.requires.4 in
    omega arith

pub overflow_cast-register : goal.overflow_cast-register
overflow_cast-register c =
    let a = c.args in
    let r = register (2 * a.h) a.u a.s c.requires.3 c.requires.4 in
    omega arith

pub returns : goal.returns
returns c =
    let start = c in
    let a = start.args in
    label_is a.code a.h a.u a.s start.requires.2 start.requires.3 start.requires.4 _ _ c.parity.ensures c.parity-2.ensures
