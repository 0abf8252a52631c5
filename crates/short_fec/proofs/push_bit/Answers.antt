-- `short_fec::push_bit` meets its contract.
use mathlib.Core.Path.{sym, ◌∙◌, ap}
use Rattle.std.proofs.lemmas.Result.{err_from_is_err_and}
use native.Mathlib.Omega.{arith}
use Prim.Native.Nat.{ℕ, ◌%◌, ◌<◌}
use Rattle.short_code.specs.Codes.{states_of}
use Rattle.short_code.specs.CodeLaws.{states_are, good_length_lem}
use Rattle.refusal.proofs.RowLaws.{passed}
use Rattle.refusal.specs.Rows as answer
use borrow.Author.Tests.{leb-false, not-false}
use Rattle.trellis.specs.Code.{moved}
use Rattle.short_code.specs.Codes.{good_code}
use Rattle.short_fec.specs.Rows.{encoder_rows}
use Rattle.short_fec.proofs.push_bit.Goals as goal

pub returns-in_err-answer_encoder : goal.returns-in_err-answer_encoder
returns-in_err-answer_encoder c =
    let p = err_from_is_err_and c.from_residual.result c.from_residual.ensures.1 in
    record { answers = rw (p.1, p.2) (sym c.in_err-answer_encoder.was ∙ c.answer_encoder.ensures); outputs = rw p.1 tt }

pub half-requires : goal.half-requires
half-requires c =
    let a = c.args in
    let p = passed (encoder_rows a.code a.enc.state) tt (sym (sym c.in_ok-answer_encoder.was ∙ c.answer_encoder.ensures)) in
    good_length_lem a.code (not-false (good_code a.code) (p answer.Code))

pub encode_bit-c-requires : goal.encode_bit-c-requires
encode_bit-c-requires c =
    let a = c.args in
    let told = c in
    let p = passed (encoder_rows a.code a.enc.state) tt (sym (sym told.in_ok-answer_encoder.was ∙ told.answer_encoder.ensures)) in
    let s : a.enc.state < states_of a.code = leb-false (states_of a.code) a.enc.state (p answer.State) in
    let e = states_are a.code c.half.result c.half.ensures.2 in
    (c.half.ensures.0, c.half.ensures.1, c.half.ensures.2, omega arith)

pub returns : goal.returns
returns c =
    let a = c.args in
    let told = c in
    let half = c.half in
    let x = c.encode_bit-c.ensures in record { answers = sym told.in_ok-answer_encoder.was ∙ told.answer_encoder.ensures; outputs = (x.0, x.1, x.2 ∙ ap (λ (k : ℕ). moved k (a.u % 2) a.enc.state) half.ensures.2.half_is) }
