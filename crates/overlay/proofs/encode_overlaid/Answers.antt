-- `overlay::encode_overlaid` meets its contract.
use mathlib.Core.Path.{refl, sym, ◌∙◌}
use lib.ListN.{length}
use borrow.Author.Rules.{rules}
use Rattle.std.proofs.lemmas.Result.{err_from_is_err_and}
use Rattle.overlay_parts.specs.Calls.{lent}
use Rattle.overlay.proofs.Accepted.{made, enough, asks, overlaps}
use Rattle.overlay.proofs.encode_overlaid.Goals as goal

pub returns-in_err-answer_overlay : goal.returns-in_err-answer_overlay
returns-in_err-answer_overlay c =
    let p = err_from_is_err_and c.from_residual.result c.from_residual.ensures.1 in
    record { answers = rw (p.1, p.2) (sym c.in_err-answer_overlay.was ∙ c.answer_overlay.ensures); inputs = rw p.1 refl; outputs = rw p.1 refl; overlays = rw p.1 tt }

pub lay_overlaid-requires : goal.lay_overlaid-requires
lay_overlaid-requires c =
    let yes = c in
    let asked = yes in
    let a = asked.args in
    let e = enough a.given.code a.given.first.state a.given.second.state (length a.us.now) (length a.vs.now) (length a.ws.now) (length a.out1.now) (length a.out2.now) (length a.out3.now) (sym yes.in_ok-answer_overlay.was ∙ asked.answer_overlay.ensures) in
    (e.long, e.bits_room)

pub slice_bounds-encode_three-end : goal.slice_bounds-encode_three-end
slice_bounds-encode_three-end c =
    let yes = c in
    let asked = yes in
    let a = asked.args in
    let e = enough a.given.code a.given.first.state a.given.second.state (length a.us.now) (length a.vs.now) (length a.ws.now) (length a.out1.now) (length a.out2.now) (length a.out3.now) (sym yes.in_ok-answer_overlay.was ∙ asked.answer_overlay.ensures) in
    let room = e.bits_room in
    search rules

pub encode_three-requires : goal.encode_three-requires
encode_three-requires c =
    let lay-overlaid = c in
    let yes = lay-overlaid in
    let asked = yes in
    let start = asked in
    let a = start.args in
    let e = enough a.given.code a.given.first.state a.given.second.state (length a.us.now) (length a.vs.now) (length a.ws.now) (length a.out1.now) (length a.out2.now) (length a.out3.now) (sym yes.in_ok-answer_overlay.was ∙ asked.answer_overlay.ensures) in
    let laid = lay-overlaid.lay_overlaid in
    asks a.given.code a.given.first.state a.given.second.state a.us.now a.vs.now a.ws.now laid.new.ws (length a.out1.now) (length a.out2.now) (length a.out3.now) e laid.ensures

pub returns : goal.returns
returns c =
    let laid = c in
    let yes = laid in
    let asked = yes in
    let start = asked in
    let a = start.args in
    let e = enough a.given.code a.given.first.state a.given.second.state (length a.us.now) (length a.vs.now) (length a.ws.now) (length a.out1.now) (length a.out2.now) (length a.out3.now) (sym yes.in_ok-answer_overlay.was ∙ asked.answer_overlay.ensures) in
    let three = c.encode_three in
    let m = made three.result three.ensures.accepted in
    let done = rw m.1 at three.ensures.encodes in
    let law = overlaps a.given.code a.given.first.state a.given.second.state a.us.now a.vs.now m.0 (lent a.out1.now a.out2.now a.out3.now)
    (lent three.new.out1 three.new.out2 three.new.out3) e.good e.first_state e.second_state e.long done in
    rw m.1 (record { answers = sym yes.in_ok-answer_overlay.was ∙ asked.answer_overlay.ensures; inputs = laid.lay_overlaid.ensures; outputs = done; overlays = law })
