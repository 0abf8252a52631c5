-- `isdbs_runs` meets its contract: the first i numbers are at the front.
use mathlib.Core.Path.{◌≡◌}
use Prim.Native.Nat.{◌*◌, ◌-◌, ◌≤◌}
use lib.ListN.{length}
use Rattle.trellis.specs.Lists.{laid, upto}
use Rattle.isdbs_plan.specs.RunsOf.{runs_of}
use Rattle.c_table.specs.Forms.{table_of, run_number}
use Rattle.c_table.proofs.isdbs_runs.Given as goal

abbrev pub invariant-loop-i : goal.invariant-loop-i
invariant-loop-i l = (l.i ≤ 6 * l.n) × (l.out ≡ laid (upto (run_number (runs_of (table_of l.table))) l.i) l.initial.out) × (length l.out ≡ length l.initial.out) × (6 * l.n ≤ length l.initial.out) × (l.n ≡ length (runs_of (table_of l.table))) × (l.places ≡ 6 * l.n) × (l.n ≤ 4)

abbrev pub decreases-loop-i : goal.decreases-loop-i
decreases-loop-i l = 6 * l.n - l.i
