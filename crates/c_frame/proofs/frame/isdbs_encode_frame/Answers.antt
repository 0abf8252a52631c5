-- `isdbs_encode_frame` meets its contract.
use mathlib.Core.Path.{◌≡◌, refl, sym, ◌∙◌, ap}
use lib.ListN.{length}
use Rattle.std.specs.Prelude.{Err}
use Rattle.refusal.specs.Rows.{number_of, answer_of}
use Rattle.isdbs_phy.specs.EncodeRows.{encode_rows}
use Rattle.c_table.specs.Forms.{table_of}
use Rattle.c_mapping.specs.Mappings.{mapping_of}
use Rattle.c_answers.specs.Answers.{answered}
use Rattle.c_answers.specs.AnswerLaws.{kept}
use Rattle.refusal.proofs.RowLaws.{zero_accepted, err_refuses}
use Rattle.c_frame.proofs.frame.isdbs_encode_frame.Goals as goal

pub returns-in-Err : goal.returns-in-Err
returns-in-Err c =
    let a = c.args in
    let t : c.table_of-t.result ≡ table_of a.table = c.table_of-t.ensures in
    let e = c.number.ensures in
    let f = c.encode_frame_with_state.ensures in
    let is = ap answer_of c.in-Err.is in
    let n = c.number.result in
    let w : n ≡ answered (encode_rows (table_of a.table) a.state (length a.re.now) (length a.im.now)) =
    e ∙ ap number_of (sym is ∙ f.answers) ∙ rw t refl in
    let h : n ≡ 0 → ⊥ = λ z. err_refuses (zero_accepted (Err c.in-Err.row) (sym e ∙ z)) in
    let l = f.frame.1 (λ q. err_refuses (sym is ∙ q)) in
    record {
      answers = w;
      real = l.re_is ∙ kept n _ _ h;
      imaginary = l.im_is ∙ kept n _ _ h;
      state = kept n _ _ h;
    }

pub returns-in-Ok : goal.returns-in-Ok
returns-in-Ok c =
    let a = c.args in
    let t : c.table_of-t.result ≡ table_of a.table = c.table_of-t.ensures in
    let m : c.mapping_of-m.result ≡ mapping_of a.mapping = c.mapping_of-m.ensures in
    let e = c.encode_frame_with_state.ensures in
    let is = ap answer_of c.in-Ok.is in
    let w : 0 ≡ answered (encode_rows (table_of a.table) a.state (length a.re.now) (length a.im.now)) =
    ap number_of (sym is ∙ e.answers) ∙ rw t refl in
    let f = e.frame.0 is in
    let l = rw c.in-Ok.is at e.state in
    record {
      answers = w;
      real = f.re_is ∙ rw (t, m) refl;
      imaginary = f.im_is ∙ rw (t, m) refl;
      state = l ∙ rw t refl;
    }
