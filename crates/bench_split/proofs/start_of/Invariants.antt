-- `start_of` meets its contract.
use mathlib.Core.Path.{◌≡◌}
use Prim.Native.Nat.{◌≤◌}
use lib.ListN.{drop}
use Rattle.bench_split.specs.Parts.{after}
use Rattle.bench_split.proofs.start_of.Given as goal

abbrev pub invariant-loop-j : goal.invariant-loop-j
invariant-loop-j l = after l.stop l.left (drop l.j l.s) ≡ after l.stop l.i l.s
