-- `qpsk_mapped` meets its contract.
use Rattle.isdbs_points.proofs.qpsk_mapped.Goals as goal

pub returns-then-p1_on_q : goal.returns-then-p1_on_q
returns-then-p1_on_q c = rw (c.if-p1_on_q.true, c.qpsk_point-q.ensures)

pub returns-else-p1_on_q : goal.returns-else-p1_on_q
returns-else-p1_on_q c = rw (c.if-p1_on_q.false, c.qpsk_point-q.ensures)
