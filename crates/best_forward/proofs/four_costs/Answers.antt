use Rattle.best_forward.proofs.Passes.{four_hold}
use Rattle.best_forward.proofs.four_costs.Goals as goal

pub returns : goal.returns
returns c =
    let cost-of2 = c in
    let cost-of = cost-of2 in
    let start = cost-of in
    let a = start.args in
    four_hold a.metrics.now a.k _ _ _ _ cost-of.cost_of-a.ensures cost-of2.cost_of-b.ensures c.cost_of-c.ensures c.cost_of-e.ensures
