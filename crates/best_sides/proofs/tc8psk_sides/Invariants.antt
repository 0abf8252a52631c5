use mathlib.Core.Path.{◌≡◌}
use Prim.Native.Nat.{◌-◌, ◌≤◌}
use Rattle.trellis.specs.Lists.{upto, laid}
use Rattle.best_sides.specs.RunSides.{side_of}
use Rattle.best_sides.proofs.tc8psk_sides.Given as goal

abbrev pub invariant-loop-k : goal.invariant-loop-k
invariant-loop-k l = (l.k ≤ l.n) × (l.sides ≡ laid (upto (side_of l.re l.im l.m) l.k) l.initial.sides)

abbrev pub decreases-loop-k : goal.decreases-loop-k
decreases-loop-k l = l.n - l.k
