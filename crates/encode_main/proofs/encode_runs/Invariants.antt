-- `encode_runs` meets its contract.
use mathlib.Core.Path.{◌≡◌}
use Prim.Native.Nat.{◌*◌, ◌%◌, ◌≤◌}
use lib.ListN.{take}
use Rattle.isdbs_points.specs.Layout.{segments_from}
use Rattle.isdbs_points.specs.PlaceLaws.{before}
use Rattle.encode_main.specs.Encoding.{inputs_of, point_of}
use Rattle.encode_run.specs.PieceLaws.{Going}
use Rattle.encode_main.proofs.encode_runs.Given as goal

abbrev pub invariant-loop-r : goal.invariant-loop-r
invariant-loop-r l =
    let rs = take l.fn.count l.fn.list in
    let segs = segments_from rs 0 0 in
    (l.bit ≡ before (λ g. g.bits) segs l.r-index)
    × (l.end ≡ before (λ g. g.symbols) segs l.r-index)
    × (l.bit ≤ 2 * l.end)
    × Going (inputs_of rs l.bytes) l.start (λ k. (point_of rs l.m l.bytes l.start k).re) (λ k. (point_of rs l.m l.bytes l.start k).im) l.initial.re l.initial.im l.re l.im l.state
    (before (λ g. g.steps) segs l.r-index) (before (λ g. g.symbols) segs l.r-index)
    × (l.bit % 8 ≡ 0)
