use Rattle.std.proofs.Common.{◌≡◌, ◌+◌, length, drop, rules, arith}
use borrow.Author.Tests.{eq-eqb, ne_eqb}
use lib.ListN.{drop_of_length-le}
use Rattle.bench_split.specs.Parts.{until}
use Rattle.bench_split.proofs.Laws.{until_next}
use Rattle.bench_split.proofs.bytes_before.Goals as goal

pub returns-then-b-stop : goal.returns-then-b-stop
returns-then-b-stop c =
    let a = c.args in
    let j = c.loop-j.j in
    let i = c.loop-j.invariant in
    let e : length (until a.stop (drop j a.s.now)) ≡ 0 = rw (until_next a.stop a.s.now j c.loop-j-test.true, eq-eqb _ _ c.if-b-stop.true) in
    omega arith

pub loop-j-preserved : goal.loop-j-preserved
loop-j-preserved c =
    let a = c.args in
    let j = c.loop-j.j in
    let i = c.loop-j.invariant in
    let e : length (until a.stop (drop j a.s.now)) ≡ length (until a.stop (drop (j + 1) a.s.now)) + 1 = rw (until_next a.stop a.s.now j c.loop-j-test.true, ne_eqb _ _ c.if-b-stop.false) (omega arith) in
    omega arith

pub returns : goal.returns
unfolding until
returns c =
    let a = c.args in
    let i = c.loop-j.invariant in
    let e : length (until a.stop (drop c.loop-j.j a.s.now)) ≡ 0 = rw (drop_of_length-le a.s.now c.loop-j-test.false) in
    omega arith
