-- `unsigned` meets its contract.
use mathlib.Core.Path.{sym, subst}
use lib.Dec.{T}
use lib.Ieee.Compare.{differs_from_itself}
use Rattle.ieee.proofs.Bits.{number}
use Rattle.decode_soft.proofs.Bits.{unsigned_is, unsigned_number}
use Rattle.decode_soft.proofs.unsigned.Goals as goal

pub returns-then-x : goal.returns-then-x
returns-then-x c = let e = differs_from_itself c.args.x (subst T (sym c.if-x.true) tt) in rw e

pub float_to_bits-result : goal.float_to_bits-result
float_to_bits-result c = number c.args.x c.if-x.false

pub float_from_bits-result : goal.float_from_bits-result
float_from_bits-result c = unsigned_number c.args.x (subst T (sym c.well_formed.0.1) tt) (number c.args.x c.if-x.false)

pub returns : goal.returns
returns c = unsigned_is c.args.x (subst T (sym c.well_formed.0.1) tt)
