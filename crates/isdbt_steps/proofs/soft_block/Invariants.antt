-- `isdbt_steps::soft_block` meets its contract.
use mathlib.Core.Path.{◌≡◌}
use Prim.Native.Nat.{◌+◌, ◌-◌, ◌*◌, ◌≤◌}
use lib.ListN.{length}
use Rattle.isdbt_table.specs.WrittenLaws.{Written}
use Rattle.isdbt_steps.specs.Soft.{placed_by, standing_at}
use Rattle.isdbt_steps.proofs.soft_block.Given as goal

abbrev pub invariant-loop-k : goal.invariant-loop-k
invariant-loop-k l = (l.k ≤ l.len) × (length l.initial.pairs ≡ 128) × (l.at ≡ standing_at l.period l.n (l.i + l.k)) × Written (λ j. placed_by l.period l.n l.places l.llrs (2 * l.i + j)) (2 * l.k) l.initial.pairs l.pairs

abbrev pub decreases-loop-k : goal.decreases-loop-k
decreases-loop-k l = l.len - l.k
