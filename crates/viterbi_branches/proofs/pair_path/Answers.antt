-- `viterbi_branches::pair_path` meets its contract: the signs of the branch are those of its label.
use Rattle.viterbi_branches.proofs.Paths.{pair_cand}
use Rattle.viterbi_branches.proofs.pair_path.Goals as goal

pub returns : goal.returns
returns c =
    let start = c in
    let a = start.args in
    let p = start.requires in
    pair_cand a.old.now a.u a.b a.j p.2 _ _ (p.3.sign a.u a.b a.j p.0 p.1 p.2) (p.4.sign a.u a.b a.j p.0 p.1 p.2) a.lx a.ly _ _ c.term.ensures c.term-2.ensures
