use native.Mathlib.Omega.{arith}
use Rattle.best_grid.specs.Sides.{two, price_at}
use Rattle.best_grid.specs.Backward.{other_run}
use Rattle.best_grid.specs.Leading.{seq}
use Rattle.best_content.proofs.Differing.{fars_halved, differing_is}
use Rattle.best_content.proofs.lead_slot.Goals as goal

pub back_steps-requires : goal.back_steps-requires
back_steps-requires c =
    let start = c in
    let p = start.requires in
    (p.0, p.1, fars_halved c.none_differs-d.result c.none_differs-d.ensures)

pub least_sum-requires : goal.least_sum-requires
least_sum-requires c =
    let start = c in
    let p = start.requires in
    (p.2, λ k h. let x = p.3 k in let y = c.back_steps.ensures.2 k in omega arith)

pub returns : goal.returns
returns c =
    let none-differs = c in
    let start = none-differs in
    let a = start.args in
    let bs = c.back_steps in
    let nd = none-differs.none_differs-d in (
      bs.ensures.0,
      differing_is a.table.now (λ d. other_run (two a.metrics.now a.sides.now) (price_at a.metrics.now a.sides.now) (seq a.bits.now) (seq a.uncoded.now) d a.b.now a.at a.count) nd.result bs.new.d c.least_sum.result
          nd.ensures bs.ensures.1 c.least_sum.ensures,
    )
