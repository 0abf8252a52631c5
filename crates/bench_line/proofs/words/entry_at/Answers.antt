-- `entry_at` meets its contract.
use Rattle.std.proofs.Common.{le-ltb, lt-ltb}
use Rattle.bench_line.specs.Words.{entry_at}
use Rattle.bench_line.proofs.words.entry_at.Goals as goal

pub returns-then-i-parts : goal.returns-then-i-parts
unfolding entry_at
returns-then-i-parts c =
    let at = c in
    rw (← at.parts.ensures, lt-ltb _ _ at.if-i-parts.true, c.entry_of.ensures, c.part.ensures)

pub returns-else-i-parts : goal.returns-else-i-parts
unfolding entry_at
returns-else-i-parts c = rw (← c.parts.ensures, le-ltb _ _ c.if-i-parts.false)
