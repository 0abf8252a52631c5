-- `table` meets its contract.
use Rattle.std.proofs.Common.{le-leb}
use borrow.Author.Tests.{lt-leb}
use Rattle.bench_line.specs.Words.{table_of}
use Rattle.bench_line.proofs.words.table.Goals as goal

pub returns-then-parts-gt4 : goal.returns-then-parts-gt4
unfolding table_of
returns-then-parts-gt4 c = rw (← c.parts.ensures, lt-leb _ _ c.if-parts-gt4.true)

pub returns-in_err-a : goal.returns-in_err-a
unfolding table_of
returns-in_err-a c = rw (c.from_residual.ensures, ← c.parts.ensures, le-leb _ _ c.if-parts-gt4.false, ← c.entry_at.ensures, c.in_err-a.was)

pub returns-in_err-b : goal.returns-in_err-b
unfolding table_of
returns-in_err-b c =
    rw (c.from_residual-in_err-b.ensures, ← c.parts.ensures, le-leb _ _ c.if-parts-gt4.false, ← c.entry_at.ensures, c.in_ok-a.was, ← c.entry_at-2.ensures, c.in_err-b.was)

pub returns-in_err-c : goal.returns-in_err-c
unfolding table_of
returns-in_err-c c =
    rw (
      c.from_residual-in_err-c.ensures,
      ← c.parts.ensures,
      le-leb _ _ c.if-parts-gt4.false,
      ← c.entry_at.ensures,
      c.in_ok-a.was,
      ← c.entry_at-2.ensures,
      c.in_ok-b.was,
      ← c.entry_at-3.ensures,
      c.in_err-c.was,
    )

pub returns-in_err-d : goal.returns-in_err-d
unfolding table_of
returns-in_err-d c =
    rw (
      c.from_residual-in_err-d.ensures,
      ← c.parts.ensures,
      le-leb _ _ c.if-parts-gt4.false,
      ← c.entry_at.ensures,
      c.in_ok-a.was,
      ← c.entry_at-2.ensures,
      c.in_ok-b.was,
      ← c.entry_at-3.ensures,
      c.in_ok-c.was,
      ← c.entry_at-4.ensures,
      c.in_err-d.was,
    )

pub returns : goal.returns
unfolding table_of
returns c =
    rw (
      ← c.parts.ensures,
      le-leb _ _ c.if-parts-gt4.false,
      ← c.entry_at.ensures,
      c.in_ok-a.was,
      ← c.entry_at-2.ensures,
      c.in_ok-b.was,
      ← c.entry_at-3.ensures,
      c.in_ok-c.was,
      ← c.entry_at-4.ensures,
      c.in_ok-d.was,
    )
