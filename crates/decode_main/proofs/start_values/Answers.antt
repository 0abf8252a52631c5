-- `start_values` meets its contract.
use Rattle.decode_main.proofs.start_values.Goals as goal

pub returns-then-known_start : goal.returns-then-known_start
returns-then-known_start c = rw c.if-known_start.true c.start_at.ensures

pub returns-else-known_start : goal.returns-else-known_start
returns-else-known_start c = rw c.if-known_start.false c.start_unknown.ensures
