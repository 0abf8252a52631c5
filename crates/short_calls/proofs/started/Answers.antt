-- `started` meets its contract.
use Rattle.short_calls.proofs.started.Goals as goal

pub returns-in-Given : goal.returns-in-Given
returns-in-Given c =
    let g = c.with_state.ensures in record { answers = g.answers; made = rw c.in-Given.is g.made }

pub returns-in-Unknown : goal.returns-in-Unknown
returns-in-Unknown c =
    let g = c.new_unknown_state.ensures in record { answers = g.answers; made = rw c.in-Unknown.is g.made }
