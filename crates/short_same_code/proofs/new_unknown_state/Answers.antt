-- `new_unknown_state` meets its contract: it is what the two calls promise, which is equal.
use Rattle.short_same_code.specs.SameLaws.{unknown_state_agrees}
use Rattle.short_same_code.proofs.new_unknown_state.Goals as goal

pub returns : goal.returns
returns c =
    let short = c.new_unknown_state-short in
    let a = c.args in
    let e = c.isdb_code.ensures in
    let sa = rw e at short.ensures.answers in
    let sl = rw e at short.ensures.made in record { short_answers = sa; short_made = sl; isdb_answers = c.new_unknown_state-isdb.ensures.answers; isdb_made = c.new_unknown_state-isdb.ensures.made; agree = unknown_state_agrees a.traceback short.result c.new_unknown_state-isdb.result sa sl c.new_unknown_state-isdb.ensures.answers c.new_unknown_state-isdb.ensures.made }
