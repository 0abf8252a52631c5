-- `demod::encode_frame_with_state` meets its contract.
use Rattle.std.proofs.lemmas.Result.{err_from_is_err_and}
use Rattle.isdbs_frame.specs.Frame.{main_symbols}
use mathlib.Core.Path.{refl, sym, ◌∙◌}
use native.Mathlib.Omega.{arith}
use borrow.Author.Tests.{ltb-false}
use lib.ListN.{length}
use Rattle.refusal.proofs.RowLaws.{done, refused, err_refuses}
use Rattle.isdbs_plan.specs.PlannedLaws.{table_is, planned}
use Rattle.isdbs_phy.proofs.EncodeAnswers.{rows_pass}
use Rattle.isdbs_phy.proofs.demod.encode_frame_with_state.Goals as goal

pub returns-in_err-encode_answer : goal.returns-in_err-encode_answer
returns-in_err-encode_answer c =
    let p = err_from_is_err_and c.from_residual.result c.from_residual.ensures.1 in
    record {
      answers = rw (p.1, p.2) (sym c.in_err-encode_answer.was ∙ c.encode_answer.ensures);
      state = rw (p.1) tt;
      frame = rw (p.1) (refused _ err_refuses (record { re_is = refl; im_is = refl }));
    }

pub encode_main-end-requires : goal.encode_main-end-requires
encode_main-end-requires c =
    let a = c.args in
    let pl = c.plan_of-p in
    let p = rows_pass a.t a.enc.state (length a.re.now) (length a.im.now) c.encode_answer.result c.encode_answer.ensures c.in_ok-encode_answer.was in
    (planned pl.ensures.0 pl.ensures.1 p.0, omega (arith, ltb-false 63 a.enc.state p.1), ltb-false (length a.re.now) main_symbols p.2, ltb-false (length a.im.now) main_symbols p.3)

pub returns : goal.returns
returns c =
    let et = table_is c.plan_of-p.ensures.0 in
    let end = rw et at c.encode_main-end.ensures.state in
    let made = rw et at c.encode_main-end.ensures.frame in
    record { answers = sym c.in_ok-encode_answer.was ∙ c.encode_answer.ensures; state = end; frame = done made }
