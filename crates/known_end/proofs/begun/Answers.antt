-- `known_end::begun` meets its contract.
use mathlib.Core.Path.{◌∙◌}
use Rattle.known_end.proofs.Rows.{fresh_is}
use Rattle.known_end.proofs.begun.Goals as goal

pub returns : goal.returns
returns c =
    let a = c.args in
    let e = rw c.zeros.ensures at c.unwrap_or.ensures in
    e ∙ fresh_is a.traceback a.start c.with_state.result c.with_state.ensures.answers c.with_state.ensures.made
