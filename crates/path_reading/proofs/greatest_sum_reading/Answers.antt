-- `path_reading::greatest_sum_reading` meets its contract.
use mathlib.Core.Path.{refl, sym, ap, ◌∙◌}
use mathlib.Core.List.{[]}
use Rattle.std.proofs.lemmas.Result.{err_from_is_err_and}
use Rattle.isdb_fec.specs.declared.conv.ViterbiDecoder.{ViterbiDecoder}
use Rattle.range_calls.specs.Turned.{turned}
use Rattle.range_calls.specs.TurnedLaws.{turned_ok, turned_err}
use Rattle.path_reading.proofs.Compose.{short, refused, accepted, count_fits}
use Rattle.path_reading.proofs.greatest_sum_reading.Goals as goal

pub returns-then-out-metrics : goal.returns-then-out-metrics
returns-then-out-metrics c =
    let a = c.args in
    let g = rw c.started-dec.ensures at c.push_metrics-short.ensures in
    let w = short a.start a.metrics.now [] c.push_metrics-short.new.decisions a.out.now c.push_metrics-short.new.out a.decisions.now c.push_metrics-short.result (g.answers, g.leaves) c.if-out-metrics.true refl in
    let is = c.turned.ensures ∙ ap (λ (v : ViterbiDecoder). turned v c.push_metrics-short.result) c.started-dec.ensures in
    rw is (record { answers = w.answers; leaves = w.leaves; greatest = w.greatest })

pub returns-in_err-pushed : goal.returns-in_err-pushed
returns-in_err-pushed c =
    let a = c.args in
    let p = err_from_is_err_and c.from_residual.result c.from_residual.ensures.1 in
    let t = turned_err c.started-dec.result c.push_metrics.result c.in_err-pushed.field-0.0 (sym c.turned-2.ensures ∙ c.in_err-pushed.was) in
    let g = rw (c.started-dec.ensures, t.0) at c.push_metrics.ensures in
    let w = refused a.start a.metrics.now a.decisions.now c.push_metrics.new.decisions a.out.now c.push_metrics.new.out c.in_err-pushed.field-0.0 (t.1 ∙ c.started-dec.ensures) (g.answers, g.leaves) c.if-out-metrics.false in
    rw (p.1, p.2) (record { answers = w.answers; leaves = w.leaves; greatest = w.greatest })

pub finished-requires : goal.finished-requires
finished-requires c =
    let a = c.args in
    let is = turned_ok c.started-dec.result c.push_metrics.result c.in_ok-pushed.pushed (sym c.turned-2.ensures ∙ c.in_ok-pushed.was) in
    let g = rw (c.started-dec.ensures, is) at c.push_metrics.ensures in
    count_fits a.start a.metrics.now a.decisions.now c.push_metrics.new.decisions a.out.now c.push_metrics.new.out c.in_ok-pushed.pushed (g.answers, g.leaves) c.if-out-metrics.false c.decisions-2-1.given c.out-2-1.given

pub returns : goal.returns
returns c =
    let a = c.args in
    let is = turned_ok c.started-dec.result c.push_metrics.result c.in_ok-pushed.pushed (sym c.turned-2.ensures ∙ c.in_ok-pushed.was) in
    let g = rw (c.started-dec.ensures, is) at c.push_metrics.ensures in
    let w = accepted a.start a.metrics.now a.decisions.now c.push_metrics.new.decisions a.out.now c.push_metrics.new.out c.in_ok-pushed.pushed (g.answers, g.leaves) c.if-out-metrics.false c.decisions-2-1.given c.out-2-1.given c.type_inv.metrics c.finished.result c.finished.new.decisions c.finished.new.out c.finished.ensures in
    let made = c.turned-3.ensures ∙ ap (λ (v : ViterbiDecoder). turned v c.finished.result) c.started-dec.ensures in
    rw made (record { answers = w.answers; leaves = w.leaves; greatest = w.greatest })
