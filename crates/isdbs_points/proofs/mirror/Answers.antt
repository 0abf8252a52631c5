-- `mirror` meets its contract.
use Rattle.isdbs_points.proofs.mirror.Goals as goal

pub returns-then-conjugate : goal.returns-then-conjugate
returns-then-conjugate c = rw c.if-conjugate.true

pub returns-else-conjugate : goal.returns-else-conjugate
returns-else-conjugate c = rw c.if-conjugate.false
