-- `beyond` meets its contract.
use lib.Ieee.{neg, le}
use Rattle.refusal.proofs.RowLaws.{either_fails}
use Rattle.isdbs_rows.proofs.beyond.Goals as goal

pub returns : goal.returns
returns c = either_fails (le (neg c.args.limit) c.args.x) (le c.args.x c.args.limit)
