-- `by_turns` meets its contract.
use mathlib.Core.Path.{◌≡◌}
use Prim.Native.Nat.{◌+◌, ◌-◌, ◌*◌, ◌≤◌}
use lib.ListN.{length, get_or}
use lib.Ieee.{nan}
use Rattle.trellis.specs.Lists.{upto, laid}
use Rattle.isdbs_points.specs.Points.{conjugated}
use Rattle.decode_parts.specs.Turns.{turns}
use Rattle.decode_parts.proofs.by_turns.Given as goal

abbrev pub invariant-loop-i : goal.invariant-loop-i
invariant-loop-i l = (l.i ≤ l.n) × (length l.parts ≡ length l.initial.parts) × (l.parts ≡ laid (upto (turns (λ k. conjugated l.turn_a (get_or l.a (l.from + k) nan)) (λ k. conjugated l.turn_b (get_or l.b (l.from + k) nan))) (2 * l.i)) l.initial.parts)

abbrev pub decreases-loop-i : goal.decreases-loop-i
decreases-loop-i l = l.n - l.i
