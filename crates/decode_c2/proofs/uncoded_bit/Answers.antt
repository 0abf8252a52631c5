-- `uncoded_bit` meets its contract.
use lib.Ieee.{lt, of_bits, binary64}
use mathlib.Core.Path.{◌∙◌}
use Rattle.isdbs_metrics.specs.DigitLaws.{bool_bit}
use Rattle.decode_c2.proofs.uncoded_bit.Goals as goal

pub returns : goal.returns
returns c = bool_bit (lt c.correlation.result (of_bits binary64 0)) ∙ rw (c.correlation.ensures, c.symbol-v.ensures)
