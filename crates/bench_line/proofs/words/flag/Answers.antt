-- `flag` meets its contract.
use Rattle.std.proofs.Common.{ne_eqb}
use Rattle.bench_line.specs.Words.{is_flag}
use Rattle.bench_line.proofs.words.flag.Goals as goal

pub returns-then-b-eq48 : goal.returns-then-b-eq48
unfolding is_flag
returns-then-b-eq48 c = rw c.if-b-eq48.true

pub returns-then-b-eq49 : goal.returns-then-b-eq49
unfolding is_flag
returns-then-b-eq49 c = rw c.if-b-eq49.true

pub returns-else-b-eq49 : goal.returns-else-b-eq49
unfolding is_flag
returns-else-b-eq49 c = rw (ne_eqb _ _ c.if-b-eq48.false, ne_eqb _ _ c.if-b-eq49.false)
