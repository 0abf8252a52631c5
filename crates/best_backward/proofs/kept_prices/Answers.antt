use Rattle.best_backward.proofs.Priced.{kept_four}
use Rattle.best_backward.proofs.kept_prices.Goals as goal

pub returns : goal.returns
returns c =
    let price-of2 = c in
    let price-of = price-of2 in
    let start = price-of in
    let a = start.args in
    kept_four a.metrics.now a.k a.side a.z _ _ _ _ price-of.price_of-a.ensures price-of2.price_of-b.ensures c.price_of-c.ensures c.price_of-e.ensures
