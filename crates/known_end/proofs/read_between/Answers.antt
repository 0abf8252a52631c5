-- `known_end::read_between` meets its contract.
use mathlib.Core.Path.{sym, ap, ◌∙◌}
use Rattle.std.proofs.lemmas.Result.{err_from_is_err_and}
use Rattle.isdb_fec.specs.declared.conv.ViterbiDecoder.{ViterbiDecoder}
use Rattle.range_calls.specs.Turned.{turned}
use Rattle.range_calls.specs.TurnedLaws.{turned_ok, turned_err}
use lib.ListN.{length}
use Rattle.known_end.proofs.Rows.{passed, fresh_started}
use Rattle.known_end.proofs.Compose.{turned_back, push_taken, fits_out, accepted}
use Rattle.known_end.proofs.read_between.Goals as goal

pub returns-in_err-turned : goal.returns-in_err-turned
returns-in_err-turned c =
    let a = c.args in
    let p = err_from_is_err_and c.from_residual.result c.from_residual.ensures.1 in
    let t = turned_err c.begun-dec.result c.answer_between-answer.result c.in_err-turned.field-0.0 (sym c.turned.ensures ∙ c.in_err-turned.was) in
    let w = turned_back a.traceback a.start a.end a.pairs.now c.in_err-turned.field-0.0 a.decisions.now a.out.now (t.1 ∙ c.begun-dec.ensures) (sym t.0 ∙ c.answer_between-answer.ensures) in
    rw (p.1, p.2) (record { answers = w.0; leaves = w.1; corrects = w.2 })

pub returns-in_err-pushed : goal.returns-in_err-pushed
returns-in_err-pushed c =
    let a = c.args in
    let v = turned_ok c.begun-dec.result c.answer_between-answer.result c.in_ok-turned.field-0 (sym c.turned.ensures ∙ c.in_ok-turned.was) in
    let ok = sym c.answer_between-answer.ensures ∙ v in
    let h = (passed a.traceback a.pairs.now (length a.decisions.now) (length a.out.now) ok).traceback in
    let is = c.begun-dec.ensures ∙ fresh_started a.traceback a.start h in
    let t = turned_err c.begun-dec.result c.push.result c.in_err-pushed.field-0.0 (sym c.turned-2.ensures ∙ c.in_err-pushed.was) in
    let g = rw (is, t.0) at c.push.ensures in
    absurd (push_taken a.traceback a.start a.pairs.now _ a.decisions.now c.push.new.decisions a.out.now c.push.new.out ok (g.answers, g.leaves))

pub flush_behind-requires : goal.flush_behind-requires
flush_behind-requires c =
    let a = c.args in
    let v = turned_ok c.begun-dec.result c.answer_between-answer.result c.in_ok-turned.field-0 (sym c.turned.ensures ∙ c.in_ok-turned.was) in
    let ok = sym c.answer_between-answer.ensures ∙ v in
    let h = (passed a.traceback a.pairs.now (length a.decisions.now) (length a.out.now) ok).traceback in
    let is = c.begun-dec.ensures ∙ fresh_started a.traceback a.start h in
    let p = turned_ok c.begun-dec.result c.push.result c.in_ok-pushed.pushed (sym c.turned-2.ensures ∙ c.in_ok-pushed.was) in
    let g = rw (is, p) at c.push.ensures in
    fits_out a.traceback a.start a.end a.pairs.now a.decisions.now c.push.new.decisions a.out.now c.push.new.out c.in_ok-pushed.pushed ok (g.answers, g.leaves)

pub returns : goal.returns
returns c =
    let a = c.args in
    let v = turned_ok c.begun-dec.result c.answer_between-answer.result c.in_ok-turned.field-0 (sym c.turned.ensures ∙ c.in_ok-turned.was) in
    let ok = sym c.answer_between-answer.ensures ∙ v in
    let h = (passed a.traceback a.pairs.now (length a.decisions.now) (length a.out.now) ok).traceback in
    let is = c.begun-dec.ensures ∙ fresh_started a.traceback a.start h in
    let p = turned_ok c.begun-dec.result c.push.result c.in_ok-pushed.pushed (sym c.turned-2.ensures ∙ c.in_ok-pushed.was) in
    let g = rw (is, p) at c.push.ensures in
    let w = accepted a.traceback a.start a.end a.pairs.now a.decisions.now c.push.new.decisions a.out.now c.push.new.out c.in_ok-pushed.pushed ok (g.answers, g.leaves) c.type_inv.pairs c.decisions-1.given c.out-1.given
    c.flush_behind.new.decisions c.flush_behind.new.out c.flush_behind.result c.flush_behind.ensures.answers c.flush_behind.ensures.leaves in
    let made = c.turned-3.ensures ∙ ap (λ (v : ViterbiDecoder). turned v c.flush_behind.result) c.begun-dec.ensures in
    rw made (record { answers = w.0; leaves = w.1; corrects = w.2 })
