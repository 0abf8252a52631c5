-- `table_answer` meets its contract.
use borrow.Author.Tests.{le-ltb, lt-ltb}
use Rattle.isdbs_tables.specs.Tables.{table_rows}
use Rattle.isdbs_tables.proofs.table_answer.Goals as goal

pub returns-then-slot_sum-gt-FRAME_SLOTS : goal.returns-then-slot_sum-gt-FRAME_SLOTS
unfolding table_rows
returns-then-slot_sum-gt-FRAME_SLOTS c = rw (← c.slot_sum.ensures, lt-ltb 48 _ c.if-slot_sum-gt-FRAME_SLOTS.true)

pub returns-then-has_part : goal.returns-then-has_part
unfolding table_rows
returns-then-has_part c =
    rw (← c.slot_sum.ensures, le-ltb 48 _ c.if-slot_sum-gt-FRAME_SLOTS.false, ← c.has_part.ensures, c.if-has_part.true)

pub returns-then-has_reserved : goal.returns-then-has_reserved
unfolding table_rows
returns-then-has_reserved c =
    rw (
      ← c.slot_sum.ensures,
      le-ltb 48 _ c.if-slot_sum-gt-FRAME_SLOTS.false,
      ← c.has_part.ensures,
      c.if-has_part.false,
      ← c.has_reserved.ensures,
      c.if-has_reserved.true,
    )

pub returns : goal.returns
unfolding table_rows
returns c =
    rw (
      ← c.slot_sum.ensures,
      le-ltb 48 _ c.if-slot_sum-gt-FRAME_SLOTS.false,
      ← c.has_part.ensures,
      c.if-has_part.false,
      ← c.has_reserved.ensures,
      c.if-has_reserved.false,
    )
