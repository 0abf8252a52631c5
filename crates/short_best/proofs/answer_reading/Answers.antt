-- `short_best::answer_reading` meets its contract.
use mathlib.Core.Path.{refl, sym, ◌∙◌}
use Prim.Native.Nat.{◌%◌}
use lib.ListN.{length}
use borrow.Author.Tests.{eq-eqb, ne_eqb}
use Rattle.short_best.proofs.answer_reading.Goals as goal

pub returns-then-bad : goal.returns-then-bad
returns-then-bad c = rw (sym c.bad.ensures ∙ c.if-bad.true) refl

pub returns-then-metrics-ne0 : goal.returns-then-metrics-ne0
returns-then-metrics-ne0 c =
    let a = c.args in
    rw (sym c.bad.ensures ∙ c.if-bad.false, ne_eqb (length a.metrics.now % 4) 0 c.if-metrics-ne0.true) refl

pub returns-then-some_beyond : goal.returns-then-some_beyond
returns-then-some_beyond c =
    let two = c in
    let a = two.args in
    rw (sym two.bad.ensures ∙ two.if-bad.false, eq-eqb (length a.metrics.now % 4) 0 two.if-metrics-ne0.false, sym c.some_beyond.ensures ∙ c.if-some_beyond.true) refl

pub returns-then-short : goal.returns-then-short
returns-then-short c =
    let beyond = c in
    let two = beyond in
    let a = two.args in
    rw (
      sym two.bad.ensures ∙ two.if-bad.false,
      eq-eqb (length a.metrics.now % 4) 0 two.if-metrics-ne0.false,
      sym beyond.some_beyond.ensures ∙ beyond.if-some_beyond.false,
      sym c.short.ensures ∙ c.if-short.true,
    ) refl

pub returns : goal.returns
returns c =
    let beyond = c in
    let two = beyond in
    let a = two.args in
    rw (
      sym two.bad.ensures ∙ two.if-bad.false,
      eq-eqb (length a.metrics.now % 4) 0 two.if-metrics-ne0.false,
      sym beyond.some_beyond.ensures ∙ beyond.if-some_beyond.false,
      sym c.short.ensures ∙ c.if-short.false,
    ) refl
