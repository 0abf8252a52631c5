-- `entry_of` meets its contract.
use Rattle.std.proofs.Common.{eq-eqb, ne_eqb}
use Rattle.bench_line.specs.Words.{entry_of}
use Rattle.bench_line.proofs.words.entry_of.Goals as goal

pub returns-then-parts-ne2 : goal.returns-then-parts-ne2
unfolding entry_of
returns-then-parts-ne2 c = rw (← c.parts.ensures, ne_eqb _ _ c.if-parts-ne2.true)

pub returns : goal.returns
unfolding entry_of
returns c =
    let second = c in
    let first = second in
    let at = first in
    rw (← at.parts.ensures, eq-eqb _ _ at.if-parts-ne2.false, c.entry_from.ensures, first.digits.ensures, first.part.ensures, second.digits-2.ensures, second.part-2.ensures)
