-- `shift` meets its contract.
use borrow.Author.Tests.{eq-eqb, ne_eqb}
use Rattle.bench_checksum.specs.Crc.{shifted}
use Rattle.bench_checksum.proofs.shift.Goals as goal

pub returns-then-r-eq1 : goal.returns-then-r-eq1
unfolding shifted
returns-then-r-eq1 c = rw (eq-eqb _ _ c.if-r-eq1.true)

pub returns : goal.returns
unfolding shifted
returns c = rw (ne_eqb _ _ c.if-r-eq1.false)
