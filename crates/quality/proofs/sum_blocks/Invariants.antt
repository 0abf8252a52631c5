-- `sum_blocks` meets its contract.
use mathlib.Core.Path.{◌≡◌}
use Prim.Native.Nat.{◌+◌, ◌-◌}
use lib.ListN.{length}
use lib.ListN.{take}
use Rattle.trellis.specs.Code.{state_at}
use Rattle.trellis.specs.Isdb
use Rattle.isdbs_frame.specs.Frame.{main_symbols}
use Rattle.isdbs_points.specs.Frame.{start_state}
use Rattle.encode_main.specs.Encoding.{inputs_of}
use Rattle.encode_blocks.specs.Blocks.{Here, step_at}
use Rattle.quality.proofs.Running.{running}
use Rattle.quality.proofs.sum_blocks.Given as goal

abbrev pub invariant-loop-at : goal.invariant-loop-at
invariant-loop-at l =
    Here l.p.runs l.p.count l.at
    × (l.at.state ≡ state_at Isdb.half (start_state l.first) (inputs_of (take l.p.count l.p.runs) l.bytes) (step_at l.p.runs l.p.count l.at))
    × (length l.xs ≡ length l.initial.xs)
    × (length l.ys ≡ length l.initial.ys)
    × (length l.out ≡ length l.initial.out)
    × (l.out ≡ running l.re l.im l.bytes l.p.table l.m l.first l.initial.out l.at.symbol)

abbrev pub decreases-loop-at : goal.decreases-loop-at
decreases-loop-at l = l.p.count + main_symbols - (l.at.run + l.at.symbol)
