-- `byte_in` meets its contract: the runs passed do not have the slot.
use Prim.Native.Nat.{◌-◌, ◌≤◌}
use Rattle.isdbs_core.specs.Symbols.{byte_in}
use lib.ListN.{drop}
use mathlib.Core.Path.{◌≡◌}
use Rattle.isdbs_core.proofs.slots.byte_in.Given as goal

abbrev pub invariant-loop-i : goal.invariant-loop-i
invariant-loop-i l = (l.i ≤ 4) × (byte_in (drop l.i l.runs) l.slot l.byte ≡ byte_in l.runs l.slot l.byte)

abbrev pub decreases-loop-i : goal.decreases-loop-i
decreases-loop-i l = 4 - l.i
