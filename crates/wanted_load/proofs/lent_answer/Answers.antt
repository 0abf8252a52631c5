-- `lent_answer` meets its contract.
use borrow.Author.Tests.{lt-ltb, le-ltb}
use lib.Dec.{ltb}
use Rattle.wanted_load.proofs.RowLaws.{or_second}
use Rattle.wanted_load.proofs.lent_answer.Goals as goal

pub returns-then-re-lt-MAIN_SYMBOLS : goal.returns-then-re-lt-MAIN_SYMBOLS
returns-then-re-lt-MAIN_SYMBOLS c = let a = c.args in rw (lt-ltb a.re 38976 c.if-re-lt-MAIN_SYMBOLS.true)

pub returns-then-im-lt-MAIN_SYMBOLS : goal.returns-then-im-lt-MAIN_SYMBOLS
returns-then-im-lt-MAIN_SYMBOLS c = let a = c.args in rw (or_second (ltb a.re 38976) (ltb a.im 38976) (lt-ltb a.im 38976 c.if-im-lt-MAIN_SYMBOLS.true))

pub returns-then-bytes-need : goal.returns-then-bytes-need
returns-then-bytes-need c =
    let a = c.args in
    rw (le-ltb a.re 38976 c.if-re-lt-MAIN_SYMBOLS.false, le-ltb a.im 38976 c.if-im-lt-MAIN_SYMBOLS.false, lt-ltb a.bytes a.need c.if-bytes-need.true)

pub returns : goal.returns
returns c =
    let a = c.args in
    rw (le-ltb a.re 38976 c.if-re-lt-MAIN_SYMBOLS.false, le-ltb a.im 38976 c.if-im-lt-MAIN_SYMBOLS.false, le-ltb a.bytes a.need c.if-bytes-need.false)
