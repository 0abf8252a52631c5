-- `viterbi_branches::number` meets its contract: the table holds the branch numbers.
use Rattle.viterbi_branches.proofs.number.Goals as goal

pub returns : goal.returns
returns c =
    let a = c.args in
    let p = c.requires in
    p.3.number a.u a.b a.j p.0 p.1 p.2
