use mathlib.Core.Path.{◌∙◌}
use Prim.Native.Nat.{◌+◌, ◌*◌, ◌%◌}
use native.Mathlib.Omega.{arith}
use Rattle.trellis.specs.Code.{isdb}
use Rattle.trellis.proofs.RunLaws.{label_under}
use Rattle.best_grid.specs.Butterfly.{label_by_sum}
use Rattle.best_forward.proofs.number.Goals as goal

pub returns : goal.returns
returns c =
    let a = c.args in
    let p = c.requires in
    let e = p.3.number 0 ((a.u + a.b) % 2) a.j (omega arith) (omega arith) p.2 ∙ label_by_sum a.u a.b a.j p.0 p.1 in
    (rw e (label_under isdb a.u (2 * a.j + a.b)), e)
