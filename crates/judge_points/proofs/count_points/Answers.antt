use mathlib.Core.Path.{◌≡◌, refl}
use Prim.Native.Nat.{◌+◌, ◌-◌, ◌/◌, ◌<◌}
use native.Mathlib.Omega.{arith}
use lib.ListN.{length}
use borrow.Author.Rules.{rules}
use Rattle.isdbs_combination.specs.Combinations.{slot_symbols}
use Rattle.judge_points.specs.Given.{given_at}
use Rattle.judge_points.proofs.GivenLaws.{counted_nothing, counts_few, sum_few}
use Rattle.judge_points.proofs.Counting.{bool_few, counted_more, given_is}
use Rattle.judge_points.proofs.count_points.Goals as goal

pub loop-i-init : goal.loop-i-init
loop-i-init c =
    let a = c.args in
    (omega arith, refl, counted_nothing (given_at a.p.runs a.xs.now a.ys.now a.re.now a.im.now a.from) a.from a.counts.now)

pub overflow_add-counts : goal.overflow_add-counts
overflow_add-counts c =
    let loop-at = c in
    let st = loop-at in
    let a = st.args in
    let at = loop-at.loop-i in
    let one = bool_few c.outside-one.result in
    let few = counts_few (given_at a.p.runs a.xs.now a.ys.now a.re.now a.im.now a.from) a.from at.i a.counts.now at.counts at.sum a.from at.invariant.2 st.requires.5 ((a.from + at.i) / slot_symbols) (omega arith) in
    record { fits = omega arith }

pub overflow_add-sum : goal.overflow_add-sum
overflow_add-sum c =
    let loop-at = c in
    let a = loop-at.args in
    let at = loop-at.loop-i in
    let one = bool_few c.outside-one.result in
    let few = sum_few (given_at a.p.runs a.xs.now a.ys.now a.re.now a.im.now a.from) a.from at.i a.counts.now at.counts at.sum at.invariant.2 in
    record { fits = omega arith }

pub loop-i-preserved : goal.loop-i-preserved
loop-i-preserved c =
    let loop-at = c in
    let a = loop-at.args in
    let at = loop-at.loop-i in
    let out : c.outside-one.result ≡ given_at a.p.runs a.xs.now a.ys.now a.re.now a.im.now a.from (a.from + at.i) =
    given_is a.p.runs a.xs.now a.ys.now a.re.now a.im.now a.from at.i c.part.result c.part-in-loop-i.result c.outside-one.result c.part.ensures c.part-in-loop-i.ensures c.outside-one.ensures in
    let room : (a.from + at.i) / slot_symbols < length at.counts = omega arith in
    (omega arith, search rules, counted_more (given_at a.p.runs a.xs.now a.ys.now a.re.now a.im.now a.from) a.from at.i a.counts.now at.counts at.sum c.outside-one.result at.invariant.2 out room)

pub returns : goal.returns
returns c =
    let loop-at = c in
    let start = loop-at in
    let e : loop-at.loop-i.i ≡ start.args.n = omega arith in
    rw e at loop-at.loop-i.invariant.2
