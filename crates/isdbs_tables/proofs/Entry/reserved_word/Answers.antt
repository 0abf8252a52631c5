-- `reserved_word` meets its contract.
use Rattle.isdbs_tables.proofs.Entry.reserved_word.Goals as goal

pub returns-in-Assigned : goal.returns-in-Assigned
returns-in-Assigned c = rw (← c.from_word.ensures, c.in-Assigned.is)

pub returns-in-Dummy : goal.returns-in-Dummy
returns-in-Dummy c = rw (← c.from_word.ensures, c.in-Dummy.is)

pub returns-in-Reserved : goal.returns-in-Reserved
returns-in-Reserved c = rw (← c.from_word.ensures, c.in-Reserved.is)
