-- `isdb_mend` meets its contract: it is one call of `mend`.
use mathlib.Core.Path.{sym, ◌∙◌, ap}
use Rattle.refusal.specs.Rows.{number_of}
use Rattle.c_mend.proofs.Numbered.{left_refused, left_accepted}
use Rattle.c_mend.proofs.isdb_mend.Goals as goal

pub returns-in-Ok : goal.returns-in-Ok
returns-in-Ok c =
    let a = c.args in
    let m = rw c.in-Ok.is at c.mend.ensures in
    record {
      answers = record { far = m.far; answers = ap number_of m.answers };
      leaves = left_accepted a.start a.end a.bits.now a.decisions.now _ a.out.now _ a.places.now _ _ m a.count.now;
    }

pub returns-in-Err : goal.returns-in-Err
returns-in-Err c =
    let a = c.args in
    let m = rw c.in-Err.is at c.mend.ensures in
    let n = c.number in
    record {
      answers = record { far = m.far; answers = n.ensures ∙ ap number_of m.answers };
      leaves = left_refused a.start a.end a.bits.now a.decisions.now _ a.out.now _ a.places.now _ _ m n.result n.ensures a.count.now;
    }
