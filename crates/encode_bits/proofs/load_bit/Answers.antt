-- `load_bit` meets its contract.
use Rattle.encode_bits.proofs.load_bit.Goals as goal

pub returns : goal.returns
returns c = rw (c.byte_bit.ensures, c.load_byte.ensures)
