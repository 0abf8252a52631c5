-- `run_metrics` meets its contract.
use mathlib.Core.Path.{◌≡◌}
use Prim.Native.Nat.{◌-◌, ◌*◌, ◌≤◌}
use lib.ListN.{length}
use Rattle.trellis.specs.Lists.{upto, laid}
use Rattle.isdbs_metrics.specs.Steps.{piece_metrics}
use Rattle.decode_block.specs.Blocks.{Periods, fours}
use Rattle.best_metrics.proofs.run_metrics.Given as goal

abbrev pub invariant-loop-k : goal.invariant-loop-k
invariant-loop-k l = (l.k ≤ l.n) × Periods l.layout.combination l.k × (length l.metrics ≡ length l.initial.metrics) × (l.metrics ≡ laid (upto (fours (piece_metrics l.layout.combination l.re l.im l.m l.scale)) (4 * l.k)) l.initial.metrics)

abbrev pub decreases-loop-k : goal.decreases-loop-k
decreases-loop-k l = l.n - l.k
