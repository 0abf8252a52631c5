use Rattle.best_backward.proofs.Priced.{lower_four}
use Rattle.best_backward.proofs.low_prices.Goals as goal

pub returns : goal.returns
returns c =
    let smaller2 = c in
    let smaller = smaller2 in
    let start = smaller in
    let a = start.args in
    lower_four a.kept.now a.turned.now _ _ _ _ smaller.min-a.ensures smaller2.min-b.ensures c.min-c.ensures c.min-e.ensures
