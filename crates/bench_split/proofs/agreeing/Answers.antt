use Rattle.std.proofs.Common.{◌≡◌, ◌+◌, rules, arith, inl, inr}
use borrow.Author.Tests.{eq-eqb, ne_eqb}
use Rattle.bench_split.specs.Agreement.{agreement}
use Rattle.bench_split.proofs.Laws.{agreement_next, agreement_none, none_agreement, agreement_fits}
use Rattle.bench_split.proofs.agreeing.Goals as goal

pub overflow_add-n : goal.overflow_add-n
overflow_add-n c =
    let i = c.loop-x.invariant in
    let f = agreement_fits c.args.a.now c.args.b.now in
    omega (arith, i, f, c.iter.ensures.len, c.iter.ensures.bound)

pub loop-x-preserved-then-x-y : goal.loop-x-preserved-then-x-y
loop-x-preserved-then-x-y c =
    let h = c.in-Some.ensures.steps in
    let i = c.loop-x.invariant in
    let to = c.next.new.self in
    let e : agreement c.loop-x.x-iterator.a.rest.now c.loop-x.x-iterator.b.rest.now ≡ 1 + agreement to.a.rest.now to.b.rest.now = rw (agreement_next _ _ _ _ _ _ h.0 h.1, eq-eqb _ _ c.if-x-y.true) in
    omega (arith, i, e)

pub loop-x-preserved : goal.loop-x-preserved
loop-x-preserved c =
    let h = c.in-Some.ensures.steps in
    let i = c.loop-x.invariant in
    let to = c.next.new.self in
    let e : agreement c.loop-x.x-iterator.a.rest.now c.loop-x.x-iterator.b.rest.now ≡ 0 + agreement to.a.rest.now to.b.rest.now = rw (agreement_next _ _ _ _ _ _ h.0 h.1, ne_eqb _ _ c.if-x-y.false) in
    omega (arith, i, e)

pub returns : goal.returns
returns c =
    let i = c.loop-x.invariant in
    elim c.in-None.ensures.steps [
      | inl w ↦ let e = none_agreement c.loop-x.x-iterator.a.rest.now c.loop-x.x-iterator.b.rest.now w.1.0 in omega (arith, i, e)
      | inr w ↦ let e = agreement_none c.loop-x.x-iterator.a.rest.now c.loop-x.x-iterator.b.rest.now w.1.0 in omega (arith, i, e)
    ]
