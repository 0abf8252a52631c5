-- `ruled_from` meets its contract.
use Prim.Native.Nat.{◌-◌, ◌≤◌}
use Rattle.cases_fec.proofs.ruled_from.Given as goal

abbrev pub invariant-loop-j : goal.invariant-loop-j
invariant-loop-j l = l.n ≤ l.j

abbrev pub decreases-loop-j : goal.decreases-loop-j
decreases-loop-j l = 32 - l.j
