-- `table_of` meets its contract.
use Rattle.c_table.proofs.table_of.Goals as goal

pub returns : goal.returns
returns c = rw (c.entry_of-e0.ensures, c.entry_of-e1.ensures, c.entry_of-e2.ensures, c.entry_of-e3.ensures)
