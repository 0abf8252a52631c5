-- `demod::encode_frame` meets its contract.
use Rattle.std.proofs.lemmas.Result.{err_from_is_err_and}
use Rattle.std.specs.Prelude.{Ok, Err, Result}
use mathlib.Core.Path.{sym, ◌∙◌, ap}
use Prim.Native.Nat.{◌-◌}
use native.Mathlib.Omega.{arith}
use borrow.Author.Tests.{le-ltb}
use lib.ListN.{length}
use Rattle.refusal.specs.Rows.{answer_of}
use Rattle.refusal.proofs.RowLaws.{done, refused, err_refuses}
use Rattle.isdbs_phy.proofs.EncodeAnswers.{fewer_rows}
use Rattle.isdbs_phy.proofs.demod.encode_frame.Goals as goal

pub returns-in_err-encode_frame_with_state : goal.returns-in_err-encode_frame_with_state
returns-in_err-encode_frame_with_state c =
    let s = c.start_state.result in
    let a = c.args in
    let p = err_from_is_err_and c.from_residual.result c.from_residual.ensures.1 in
    let made = c.encode_frame_with_state in
    let fewer = fewer_rows a.t s (length a.re.now) (length a.im.now) (le-ltb 63 s (omega (arith, c.start_state.ensures.1))) in
    let kept = rw c.in_err-encode_frame_with_state.was at made.ensures.frame in
    record {
      answers = rw (p.1, p.2) (sym (ap answer_of c.in_err-encode_frame_with_state.was) ∙ made.ensures.answers ∙ fewer);
      frame = rw (p.1) (refused _ err_refuses (kept.1 err_refuses));
    }

pub returns : goal.returns
returns c =
    let s = c.start_state.result in
    let a = c.args in
    let made = c.encode_frame_with_state in
    let fewer = fewer_rows a.t s (length a.re.now) (length a.im.now) (le-ltb 63 s (omega (arith, c.start_state.ensures.1))) in
    let laid = rw (c.in_ok-encode_frame_with_state.was, c.start_state.ensures.0) at made.ensures.frame in
    record {
      answers = sym (ap answer_of c.in_ok-encode_frame_with_state.was) ∙ made.ensures.answers ∙ fewer;
      frame = laid;
    }
