-- `viterbi_core::finish` meets its contract.
use mathlib.Core.Path.{sym}
use Rattle.viterbi_core.proofs.finish.Goals as goal

pub returns : goal.returns
returns c =
    let done = c in
    let best = done in
    rw (sym best.best_state.ensures.1) done.finish_at.ensures
