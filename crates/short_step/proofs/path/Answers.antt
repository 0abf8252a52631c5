-- `short_step::path` meets its contract.
use native.Mathlib.Omega.{arith}
use Prim.Native.Nat.{◌-◌}
use Rattle.trellis.specs.Step as trellis
use Rattle.short_code.specs.RegisterLaws.{two_halves}
use Rattle.short_step.proofs.path.Goals as goal

pub overflow_mul-s : goal.overflow_mul-s
overflow_mul-s c =
    let a = c.args in
    let t = two_halves a.h a.k c.requires.0 c.requires.4 in
    omega arith

pub overflow_add-s : goal.overflow_add-s
overflow_add-s c =
    let a = c.args in
    let t = two_halves a.h a.k c.requires.0 c.requires.4 in
    omega arith

pub offset_bounds-pm-s : goal.offset_bounds-pm-s
offset_bounds-pm-s c =
    let a = c.args in
    let t = two_halves a.h a.k c.requires.0 c.requires.4 in
    omega arith

pub bounds-pm-s : goal.bounds-pm-s
bounds-pm-s c =
    let a = c.args in
    let t = two_halves a.h a.k c.requires.0 c.requires.4 in
    omega arith

pub label-requires : goal.label-requires
label-requires c =
    let start = c in
    let a = start.args in
    let t = two_halves a.h a.k start.requires.0 start.requires.4 in
    (start.requires.0, start.requires.1, start.requires.2, t.0, omega arith)

pub returns : goal.returns
unfolding trellis.cand
returns c = rw (← c.label.ensures.1) c.branch-x.ensures
