-- `decode_case` meets its contract.
use native.Mathlib.Omega.{arith}
use lib.ListN.{length-take}
use Rattle.vectors_isdbt.proofs.decode_case.Goals as goal

pub slice_bounds-decoded-end-2 : goal.slice_bounds-decoded-end-2
slice_bounds-decoded-end-2 c = simp length-take (omega arith)

pub slice_bounds-decoded-end-4 : goal.slice_bounds-decoded-end-4
slice_bounds-decoded-end-4 c = simp length-take (omega arith)
