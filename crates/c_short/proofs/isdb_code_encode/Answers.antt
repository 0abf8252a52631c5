-- `isdb_code_encode` meets its contract.
use Rattle.c_short.specs.Stored.{code_from}
use Rattle.c_short.proofs.Laws.{encode_done, encode_refused}
use Rattle.c_short.proofs.isdb_code_encode.Goals as goal

pub returns-in-Ok : goal.returns-in-Ok
returns-in-Ok c =
    let a = c.args in
    let code = c.code_from-code in
    let x = rw c.in-Ok.is at c.encode.ensures in
    let t = encode_done code.result (code_from a.constraint a.g1 a.g2) code.ensures a.state.now a.bits.now a.out.now _ _ x.answers x.state x.coded in
    record { answers = t.0; state = t.1; coded = t.2 }

pub returns-in-Err : goal.returns-in-Err
returns-in-Err c =
    let a = c.args in
    let code = c.code_from-code in
    let x = rw c.in-Err.is at c.encode.ensures in
    let n = c.number in
    let t = encode_refused code.result (code_from a.constraint a.g1 a.g2) code.ensures a.state.now a.bits.now a.out.now _ _ n.result n.ensures x.answers x.coded in
    record { answers = t.0; state = t.1; coded = t.2 }
