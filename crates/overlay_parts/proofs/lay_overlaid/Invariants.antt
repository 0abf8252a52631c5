-- `overlay_parts::lay_overlaid` meets its contract. The invariant: the exclusive-or of the first i bytes is at the front.
use mathlib.Core.Path.{◌≡◌}
use Prim.Native.Nat.{◌-◌, ◌≤◌}
use lib.ListN.{length, take}
use Rattle.trellis.specs.Lists.{laid}
use Rattle.overlay_laws.specs.Overlaid.{overlaid}
use Rattle.overlay_parts.proofs.lay_overlaid.Given as goal

abbrev pub invariant-loop-i : goal.invariant-loop-i
invariant-loop-i l = (l.i-end ≡ length l.us) × (l.i ≤ length l.us) × (length l.ws ≡ length l.initial.ws) × (l.ws ≡ laid (take l.i (overlaid l.us l.vs)) l.initial.ws)

abbrev pub decreases-loop-i : goal.decreases-loop-i
decreases-loop-i l = length l.us - l.i
