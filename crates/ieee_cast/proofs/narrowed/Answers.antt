-- `narrowed` meets its contract.
use borrow.Author.Rules.{rules}
use Rattle.ieee_cast.specs.NarrowLaws.{normal, great}
use Rattle.ieee_cast.proofs.narrowed.Goals as goal

pub returns-then-bits-lt5183643171103440896 : goal.returns-then-bits-lt5183643171103440896
returns-then-bits-lt5183643171103440896 c = rw c.round_shift.ensures (normal c.args.bits (search rules) (search rules))

pub returns : goal.returns
returns c = great c.args.bits (search rules) (search rules)
