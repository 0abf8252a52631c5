-- `short_viterbi::soft_steps` meets its contract.
use mathlib.Core.Path.{◌≡◌}
use Prim.Native.Nat.{◌-◌, ◌*◌, ◌≤◌}
use lib.ListN.{length}
use Rattle.trellis.specs.Run.{after, holding}
use Rattle.trellis.specs.Isdb.{rule}
use Rattle.viterbi_core.specs.Calls.{Holds}
use Rattle.short_code.specs.Codes.{labels}
use Rattle.short_viterbi.specs.Soft.{soft_steps}
use Rattle.short_viterbi.proofs.soft_steps.Given as goal

abbrev pub invariant-loop-i : goal.invariant-loop-i
invariant-loop-i l = (l.i ≤ l.n) × (length l.pm ≡ 2 * l.s.h) × Holds l.s.traceback l.initial.decisions l.initial.out (after l.s.h (labels l.s.code) rule l.s.traceback (soft_steps l.per l.values) (holding l.initial.pm l.initial.place.held l.initial.decisions) l.i) l.pm l.place.held l.place.count l.decisions l.out

abbrev pub decreases-loop-i : goal.decreases-loop-i
decreases-loop-i l = l.n - l.i
