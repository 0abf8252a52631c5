-- `subnormal` meets its contract.
use borrow.Author.Rules.{rules}
use native.Mathlib.Omega.{arith}
use Rattle.ieee_cast.specs.NarrowLaws.{tiny, subnormal}
use Rattle.ieee_cast.proofs.subnormal.Goals as goal

pub returns-then-exponent-lt873 : goal.returns-then-exponent-lt873
returns-then-exponent-lt873 c = tiny c.args.bits (search rules)

pub returns : goal.returns
returns c = rw c.round_shift.ensures (subnormal c.args.bits (search rules) (omega arith))
