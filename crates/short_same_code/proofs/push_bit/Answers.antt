-- `push_bit` meets its contract: it is what the two calls promise, which is equal.
use Rattle.short_same_code.specs.SameLaws.{bit_agrees}
use Rattle.short_same_code.proofs.push_bit.Goals as goal

pub returns : goal.returns
returns c =
    let short = c.push_bit-short in
    let code = c.isdb_code in
    let a = c.args in
    let e = code.ensures in
    let sa = rw e at short.ensures.answers in
    let sl = rw e at short.ensures.outputs in record { short_answers = sa; short_outputs = sl; isdb_answers = c.push-isdb.ensures.answers; isdb_outputs = c.push-isdb.ensures.outputs; agree = bit_agrees a.enc.state a.u short.result c.push-isdb.result sa sl c.push-isdb.ensures.answers c.push-isdb.ensures.outputs }
