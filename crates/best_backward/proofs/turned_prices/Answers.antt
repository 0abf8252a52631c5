use Rattle.best_backward.proofs.Priced.{turned_four}
use Rattle.best_backward.proofs.turned_prices.Goals as goal

pub returns : goal.returns
returns c =
    let turned-of2 = c in
    let turned-of = turned-of2 in
    let start = turned-of in
    let a = start.args in
    turned_four a.metrics.now a.k a.side a.z _ _ _ _ turned-of.turned_of-a.ensures turned-of2.turned_of-b.ensures c.turned_of-c.ensures c.turned_of-e.ensures
