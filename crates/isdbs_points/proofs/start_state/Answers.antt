-- `start_state` meets its contract.
use Rattle.isdbs_points.proofs.StartStates.{after_w2, after_w3}
use Rattle.isdbs_points.proofs.start_state.Goals as goal

pub returns-then-first : goal.returns-then-first
returns-then-first c = (rw c.if-first.true c.state_after.ensures, rw c.state_after.ensures after_w2)

pub returns-else-first : goal.returns-else-first
returns-else-first c = (rw c.if-first.false c.state_after-else-first.ensures, rw c.state_after-else-first.ensures after_w3)
