-- `with_state` meets its contract: it is what the two calls promise, which is equal.
use Rattle.short_same_code.specs.SameLaws.{with_state_agrees}
use Rattle.short_same_code.proofs.with_state.Goals as goal

pub returns : goal.returns
returns c =
    let short = c.with_state-short in
    let a = c.args in
    let e = c.isdb_code.ensures in
    let sa = rw e at short.ensures.answers in
    let sl = rw e at short.ensures.made in record { short_answers = sa; short_made = sl; isdb_answers = c.with_state-isdb.ensures.answers; isdb_made = c.with_state-isdb.ensures.made; agree = with_state_agrees a.traceback short.result c.with_state-isdb.result a.state sa sl c.with_state-isdb.ensures.answers c.with_state-isdb.ensures.made }
