-- `coded_inputs` meets its contract.
use Rattle.encode_bits.proofs.Digits.{byte_digits}
use Rattle.encode_bits.proofs.coded_inputs.Goals as goal

pub returns : goal.returns
returns c =
    rw (c.byte_bit.ensures, c.byte_bit-2.ensures, c.byte_bit-3.ensures, c.byte_bit-4.ensures)
    (byte_digits c.args.byte)
