-- `mark_in` meets its contract.
use Rattle.isdbs_marks.proofs.mark_in.Goals as goal

pub returns-then-is_marked : goal.returns-then-is_marked
returns-then-is_marked c =
    let at = c in
    rw (← at.combination.ensures, c.in-Some.is, ← c.is_marked.ensures, c.if-is_marked.true)

pub returns-else-is_marked : goal.returns-else-is_marked
returns-else-is_marked c =
    let at = c in
    rw (← at.combination.ensures, c.in-Some.is, ← c.is_marked.ensures, c.if-is_marked.false)

pub returns-in-None : goal.returns-in-None
returns-in-None c = rw (← c.combination.ensures, c.in-None.is)
