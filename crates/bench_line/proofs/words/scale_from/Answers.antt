-- `scale_from` meets its contract.
use Rattle.std.proofs.Common.{◌≡◌, ◌+◌, ◌-◌, ◌*◌, ◌^◌, arith, lit<, lit≤}
use Rattle.bench_line.specs.Numbers.{scale_is}
use Rattle.bench_line.specs.NumberLaws.{most}
use Rattle.bench_line.proofs.words.scale_from.Goals as goal

pub thousandths-requires : goal.thousandths-requires
unfolding most
thousandths-requires c = (rw c.in_ok-w.was at c.requires.1.0, (lit≤ tt, lit< tt))

pub returns-then-plain : goal.returns-then-plain
unfolding scale_is
returns-then-plain c =
    let w = c.in_ok-w.w in
    let z : w * 1000 + 0 * 10 ^ (3 - 0) ≡ w * 1000 = omega arith in
    rw (c.if-plain.true, c.in_ok-w.was, c.decimal.ensures, c.thousandths.ensures.0, z)

pub thousandths-requires-2 : goal.thousandths-requires-2
unfolding most
thousandths-requires-2 c = (rw c.in_ok-w.was at c.requires.1.0, (c.requires.0, rw c.in_ok-f.was at c.requires.1.1))

pub returns : goal.returns
unfolding scale_is
returns c = rw (c.if-plain.false, c.in_ok-w.was, c.in_ok-f.was, c.decimal-2.ensures, c.thousandths-2.ensures.0)
