-- `agrees` is safe and ends.
use mathlib.Core.Path.{sym}
use Prim.Native.Nat.{◌*◌}
use native.Mathlib.Omega.{arith}
use lib.Seq.{length-take-le}
use Rattle.cases_best.proofs.agrees.Goals as goal

pub slice_bounds-greatest_sum_reading-end : goal.slice_bounds-greatest_sum_reading-end
slice_bounds-greatest_sum_reading-end c =
    let a = c.args in
    sym (length-take-le (4 * a.n) a.xs.now (omega arith))
