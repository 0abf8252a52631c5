-- One entry more: what the marks of a table's entries say at an index.
use mathlib.Core.Path.{◌≡◌}
use mathlib.Core.Bool.{cond}
use mathlib.Core.List.{List}
use Prim.Native.Nat.{ℕ, ◌+◌, ◌-◌, ◌≤◌, ◌<◌}
use lib.Dec.{ltb}
use lib.ListN.{length, get_or, drop, drop_of_length-le}
use Rattle.std.specs.Prelude.{None}
use Rattle.isdbs_tables.specs.declared.Entry.{Entry}
use Rattle.isdbs_tables.specs.Tables.{entry_combination}
use Rattle.isdbs_tables.proofs.EntryLaws.{no_entry, next}
use Rattle.isdbs_marks.specs.Marks.{mark_in, mark_at}

module _ (es : List Entry) (i : ℕ) where
  pub mark_more : (k : ℕ) → i < length es →
      mark_at (drop i es) k
      ≡ cond (ltb k (get_or es i no_entry).slots) (mark_in (entry_combination (get_or es i no_entry)) k) (mark_at (drop (i + 1) es) (k - (get_or es i no_entry).slots))
  unfolding mark_at
  mark_more k h = rw (next es i h)

  pub mark_end : (k : ℕ) → length es ≤ i → mark_at (drop i es) k ≡ None
  unfolding mark_at
  mark_end k h = rw (drop_of_length-le es h)
