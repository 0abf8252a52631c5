-- `digit` meets its contract.
use Rattle.std.proofs.Common.{◌-◌, ◌<◌, ◌≤◌, arith, le-leb}
use borrow.Author.Tests.{lt-leb}
use Rattle.bench_line.specs.Numbers.{digit_of}
use Rattle.bench_line.proofs.words.digit.Goals as goal

pub returns-in-48-to-57 : goal.returns-in-48-to-57
unfolding digit_of
returns-in-48-to-57 c =
    let low : 48 ≤ c.args.b = omega arith in
    let high : c.args.b ≤ 57 = omega arith in
    let few : c.args.b - 48 ≤ 9 = omega arith in
    rw (c.from.ensures, le-leb _ _ low, le-leb _ _ high, le-leb _ _ few)

pub returns-in_default : goal.returns-in_default
unfolding digit_of
returns-in_default c = let low : c.args.b < 48 = omega arith in rw (lt-leb _ _ low)

pub returns-in_default-2 : goal.returns-in_default-2
unfolding digit_of
returns-in_default-2 c =
    let low : 48 ≤ c.args.b = omega arith in
    let high : 57 < c.args.b = omega arith in
    rw (le-leb _ _ low, lt-leb _ _ high)
