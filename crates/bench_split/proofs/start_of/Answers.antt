use Rattle.std.proofs.Common.{◌≡◌, ◌+◌, ◌-◌, ◌<◌, ◌≤◌, length, drop, rules, arith, ◌∙◌}
use borrow.Author.Tests.{eq-eqb, ne_eqb}
use lib.ListN.{drop_of_length-le}
use Rattle.bench_split.specs.Parts.{after}
use Rattle.bench_split.proofs.Laws.{after_none, after_more}
use Rattle.bench_split.proofs.start_of.Goals.{then-b-stop, else-b-stop}
use Rattle.bench_split.proofs.start_of.Goals as goal

pub loop-j-preserved : goal.loop-j-preserved
loop-j-preserved c =
    let a = c.args in
    let j = c.loop-j.j in
    let m = c.loop-j.left in
    let p : 0 < m = omega (arith, c.if-left-eq0.false) in
    let more = after_more a.stop a.s.now j c.loop-j-test.true m in
    elim c.if-b-stop.branch [
      | then-b-stop w ↦ rw w.left-is (more 1 p (rw (eq-eqb _ _ w.if-b-stop.true)) ∙ c.loop-j.invariant)
      | else-b-stop w ↦
          let z : m - 0 ≡ m = omega arith in
          rw (w.left-is, ← z) (more 0 p (rw (ne_eqb _ _ w.if-b-stop.false)) ∙ c.loop-j.invariant)
    ]

pub returns-then-left-eq0 : goal.returns-then-left-eq0
unfolding after
returns-then-left-eq0 c = (omega (arith, c.loop-j-test.true), rw (← c.loop-j.invariant, c.if-left-eq0.true))

pub returns : goal.returns
returns c =
    let s = c.args.s.now in
    let n : length s ≤ length s = omega arith in
    (n, rw (← c.loop-j.invariant, drop_of_length-le s c.loop-j-test.false, after_none, drop_of_length-le s n))
