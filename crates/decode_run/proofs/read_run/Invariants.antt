-- `read_run` meets its contract.
use mathlib.Core.Path.{◌≡◌}
use Prim.Native.Nat.{◌-◌, ◌≤◌}
use lib.ListN.{length}
use Rattle.trellis.specs.Lists.{upto, laid}
use Rattle.decode_block.specs.Blocks.{run_steps, run_mark, Periods}
use Rattle.decode_run.specs.Carried.{Carried}
use Rattle.decode_run.proofs.read_run.Given as goal

abbrev pub invariant-loop-k : goal.invariant-loop-k
invariant-loop-k l =
    (l.k ≤ l.n)
    × Periods l.layout.combination l.k
    × (length l.decisions ≡ length l.initial.decisions)
    × (length l.bits ≡ length l.initial.bits)
    × Carried (run_steps l.layout.combination l.re l.im l.mapping l.scale) l.first l.k l.initial.pm l.initial.now_at l.initial.decisions l.initial.bits l.now_at l.pm l.decisions l.bits
    × (length l.marks ≡ length l.initial.marks)
    × (l.marks ≡ laid (upto (run_mark l.layout.combination l.re l.im l.mapping l.scale) l.k) l.initial.marks)
    × (length l.parts ≡ 512)
    × (length l.pairs ≡ 896)
    × (length l.wide ≡ 448)
    × (length l.block ≡ 1792)

abbrev pub decreases-loop-k : goal.decreases-loop-k
decreases-loop-k l = l.n - l.k
