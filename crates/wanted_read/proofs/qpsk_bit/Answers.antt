-- `qpsk_bit` meets its contract.
use Rattle.wanted_read.proofs.qpsk_bit.Goals as goal

pub returns : goal.returns
returns c = rw (c.part_of.ensures, c.symbol-z.ensures) at c.part_bit.ensures
