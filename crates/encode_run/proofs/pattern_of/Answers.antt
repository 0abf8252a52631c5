-- `pattern_of` meets its contract.
use Rattle.encode_run.specs.PatternLaws.{pattern_some, pattern_none}
use Rattle.encode_run.proofs.pattern_of.Goals as goal

pub returns-in-Some : goal.returns-in-Some
returns-in-Some c =
    let pairs = c in
    let code = pairs in
    let puncturing = code in
    rw (c.period.ensures, pairs.pairs-all.ensures, ← puncturing.puncturing-code.ensures, code.in-Some.is)
    (pattern_some _)

pub returns-in-None : goal.returns-in-None
returns-in-None c = rw (← c.puncturing-code.ensures, c.in-None.is) pattern_none
