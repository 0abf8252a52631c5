-- `front` meets its contract.
use borrow.Author.Tests.{le-leb, lt-leb}
use Rattle.bench_split.proofs.front.Goals as goal

pub returns-then-n-s : goal.returns-then-n-s
returns-then-n-s g c = rw (le-leb _ _ c.if-n-s.true)

pub returns-else-n-s : goal.returns-else-n-s
returns-else-n-s g c = rw (lt-leb _ _ c.if-n-s.false)
