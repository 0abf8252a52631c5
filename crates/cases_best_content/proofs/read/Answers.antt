-- `read` is safe and ends.
use mathlib.Core.Path.{refl, sym}
use Prim.Native.Nat.{◌*◌}
use native.Mathlib.Omega.{arith}
use lib.Seq.{length-take-le}
use Rattle.cases_best_content.proofs.Laws.{lent}
use Rattle.cases_best_content.proofs.read.Goals as goal

pub slice_bounds-best_content-end : goal.slice_bounds-best_content-end
slice_bounds-best_content-end c =
    let a = c.args in
    sym (length-take-le (4 * a.s.n) a.xs.now (omega arith))

pub slice_bounds-best_content-end-6 : goal.slice_bounds-best_content-end-6
slice_bounds-best_content-end-6 c =
    let start = c in
    let a = start.args in
    sym (length-take-le a.s.n a.bits.now (omega arith))

pub slice_bounds-best_content-end-8 : goal.slice_bounds-best_content-end-8
slice_bounds-best_content-end-8 c =
    let start = c in
    let a = start.args in
    sym (length-take-le a.s.n a.uncoded.now (omega arith))

pub best_content-requires : goal.best_content-requires
best_content-requires c =
    let st = c in
    let a = st.args in
    let p = st.requires in
    lent a.xs.now a.sides.now _ _ _ _ a.leads.now a.s.a a.s.b a.s.n (omega arith) (omega arith) (omega arith) (omega arith) (omega arith) (omega arith) refl refl
    (length-take-le a.s.n a.bits.now (omega arith)) (length-take-le a.s.n a.uncoded.now (omega arith)) (omega arith) p.9
