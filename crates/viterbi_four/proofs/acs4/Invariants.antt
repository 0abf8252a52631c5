-- `viterbi_four::acs4` meets its contract. The invariant: j states of each half are written, by whatever metrics the rows hold.
use mathlib.Core.Path.{◌≡◌}
use mathlib.Core.List.{List}
use Prim.Native.Nat.{◌-◌, ◌≤◌}
use lib.Ieee.{Float}
use Rattle.trellis.specs.Step.{four}
use Rattle.viterbi_four.specs.Rows.{metric_row}
use Rattle.viterbi_four.proofs.BothHalves.{Both}
use Rattle.viterbi_four.proofs.acs4.Given as goal

abbrev pub Rows : List Float → List Float → List Float → List Float → List Float → Type 0
Rows m p q r s = (p ≡ metric_row m 0 0) × (q ≡ metric_row m 0 1) × (r ≡ metric_row m 1 0) × (s ≡ metric_row m 1 1)

abbrev pub invariant-loop-j : goal.invariant-loop-j
invariant-loop-j l = (l.j ≤ 32) × ((m : List Float) → Rows m l.p l.q l.r l.s → Both l.pm (four m) l.j l.values l.low l.high)

abbrev pub decreases-loop-j : goal.decreases-loop-j
decreases-loop-j l = 32 - l.j
