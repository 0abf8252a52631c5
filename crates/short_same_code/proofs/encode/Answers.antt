-- `encode` meets its contract: it is what the two calls promise, which is equal.
use mathlib.Core.Path.{sym}
use Rattle.short_same_code.proofs.Agrees.{encode_agrees, counts_coded}
use Rattle.short_same_code.proofs.encode.Goals as goal

pub returns : goal.returns
returns c =
    let encode = c in
    let isdb-code = encode in
    let start = isdb-code in
    let isdbt = c.encode_punctured-isdbt in
    let short = encode.encode-short in
    let code = isdb-code.isdb_code.ensures in
    let a = start.args in
    let sa = rw code at short.ensures.answers in
    let ss = rw code at short.ensures.state in
    let sc = rw code at short.ensures.coded in record { short_answers = sa; short_state = ss; short_coded = sc; isdbt_answers = isdbt.ensures.answers; isdbt_leaves = isdbt.ensures.leaves; count = counts_coded a.enc.state a.bits.now a.out2.now isdbt.new.out isdbt.result isdbt.ensures.leaves; alike = λ e. encode_agrees a.enc.state a.bits.now a.out.now short.new.out isdbt.new.out short.result isdbt.result sa ss sc (rw (sym e) at isdbt.ensures.answers) (rw (sym e) at isdbt.ensures.leaves) }
