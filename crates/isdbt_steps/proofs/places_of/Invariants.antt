-- `isdbt_steps::places_of` meets its contract.
use mathlib.Core.Path.{◌≡◌}
use Prim.Native.Nat.{◌-◌, ◌≤◌}
use lib.ListN.{length}
use Rattle.isdbt_table.specs.WrittenLaws.{Written}
use Rattle.isdbt_steps.specs.Soft.{sent_as}
use Rattle.isdbt_steps.proofs.places_of.Given as goal

abbrev pub invariant-loop-k : goal.invariant-loop-k
invariant-loop-k l = (l.k ≤ 14) × (length l.initial.places ≡ 14) × Written (sent_as l.n l.order) l.k l.initial.places l.places

abbrev pub decreases-loop-k : goal.decreases-loop-k
decreases-loop-k l = 14 - l.k
