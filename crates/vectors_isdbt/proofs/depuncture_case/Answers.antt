-- `depuncture_case` meets its contract.
use native.Mathlib.Omega.{arith}
use lib.ListN.{length-take}
use Rattle.vectors_isdbt.proofs.depuncture_case.Goals as goal

pub slice_bounds-depunctured-end-2 : goal.slice_bounds-depunctured-end-2
slice_bounds-depunctured-end-2 c = simp length-take (omega arith)

pub slice_bounds-depunctured-end-4 : goal.slice_bounds-depunctured-end-4
slice_bounds-depunctured-end-4 c = simp length-take (omega arith)
