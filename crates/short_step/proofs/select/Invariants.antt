-- `short_step::select` meets its contract. The invariant: the states below k are written, and their decisions are in w.
use mathlib.Core.Path.{◌≡◌}
use Prim.Native.Nat.{◌-◌, ◌*◌, ◌≤◌}
use lib.ListN.{length}
use lib.Ieee.{nan}
use Rattle.trellis.specs.Lists.{packed}
use Rattle.trellis.specs.Step.{wins, next}
use Rattle.trellis.specs.Isdb.{rule}
use Rattle.viterbi_core.specs.Calls.{step_of}
use Rattle.short_code.specs.Codes.{labels}
use Rattle.trellis.specs.WrittenLaws.{Written}
use Rattle.short_step.proofs.select.Given as goal

abbrev pub invariant-loop-k : goal.invariant-loop-k
invariant-loop-k l = (l.k-end ≡ 2 * l.h) × (l.k ≤ 2 * l.h) × (length l.new ≡ 64) × Written nan (next l.h (labels l.code) rule l.pm (step_of l.x)) l.k l.new × (l.w ≡ packed (wins l.h (labels l.code) rule l.pm (step_of l.x)) l.k)

abbrev pub decreases-loop-k : goal.decreases-loop-k
decreases-loop-k l = 2 * l.h - l.k
