use mathlib.Core.Path.{◌≡◌}
use Prim.Native.Nat.{◌-◌, ◌/◌, ◌≤◌}
use lib.ListN.{length, get_or}
use Rattle.trellis.specs.WrittenLaws.{Between}
use Rattle.best_grid.specs.Sides.{two, price_at}
use Rattle.best_grid.specs.Backward.{low, back_at}
use Rattle.best_content.specs.Slots.{lead_at}
use Rattle.best_content.proofs.lead_slots.Given as goal

abbrev pub invariant-loop-left : goal.invariant-loop-left
invariant-loop-left l = (l.left ≤ length l.initial.leads) × (length l.leads ≡ length l.initial.leads) × (l.b ≡ back_at (low (two l.metrics l.sides) (price_at l.metrics l.sides)) (get_or l.marks l.left 0) (length l.metrics / 4 - get_or l.marks l.left 0)) × Between 0 (lead_at l.metrics l.sides l.bits l.uncoded l.marks l.tables l.own (length l.metrics / 4)) l.left (length l.initial.leads) l.leads
