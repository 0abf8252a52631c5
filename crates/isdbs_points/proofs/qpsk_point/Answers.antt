-- `qpsk_point` meets its contract.
use Rattle.isdbs_points.proofs.qpsk_point.Goals as goal

pub returns : goal.returns
returns c = rw (c.sign_of.ensures, c.sign_of-2.ensures)
