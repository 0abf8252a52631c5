-- `put_parts` meets its contract.
use mathlib.Core.Path.{refl}
use Prim.Native.Nat.{◌-◌}
use native.Mathlib.Omega.{arith}
use lib.ListN.{length-set}
use Rattle.decode_block.proofs.put_parts.Goals as goal

pub bounds-parts-s-2 : goal.bounds-parts-s-2
bounds-parts-s-2 c = simp (length-set) (omega arith)

pub bounds-parts-s-3 : goal.bounds-parts-s-3
bounds-parts-s-3 c = simp (length-set) (omega arith)

pub bounds-parts-s-4 : goal.bounds-parts-s-4
bounds-parts-s-4 c = simp (length-set) (omega arith)

pub returns : goal.returns
returns c = refl
