-- `push` meets its contract: it is what the two calls promise, which is equal.
use mathlib.Core.Path.{sym}
use Rattle.short_same_code.specs.SameLaws.{push_agrees}
use Rattle.short_same.proofs.push.Goals as goal

pub returns : goal.returns
returns c =
    let push2 = c in
    let push = push2 in
    let isdb-code = push in
    let states = isdb-code in
    let start = states in
    let isdb = push2.push-isdb in
    let short = push.push-short in
    let code = isdb-code.isdb_code.ensures in
    let a = start.args in
    let sa = rw code at short.ensures.answers in
    let sl = rw code at short.ensures.leaves in record { short_answers = sa; short_leaves = sl; isdb_answers = isdb.ensures.answers; isdb_leaves = isdb.ensures.leaves; agree = λ e f. push_agrees a.dec states.states-all.ensures.1 short.result isdb.result a.decisions.now short.new.decisions isdb.new.decisions a.out.now short.new.out isdb.new.out a.pairs.now sa sl (rw (sym e, sym f) at isdb.ensures.answers) (rw (sym e, sym f) at isdb.ensures.leaves) }
