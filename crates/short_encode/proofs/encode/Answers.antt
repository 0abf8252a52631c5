-- `short_encode::encode` meets its contract.
use mathlib.Core.Bool.{true}
use mathlib.Core.Path.{◌≡◌, refl, sym, ◌∙◌}
use Prim.Native.Nat.{ℕ, ◌*◌, ◌≤◌, ◌<◌}
use native.Mathlib.Omega.{arith}
use lib.ListN.{length}
use Rattle.std.proofs.lemmas.Result.{err_from_is_err_and}
use borrow.Author.Tests.{leb-false, ltb-false, not-false}
use Rattle.refusal.specs.Rows.{first_row}
use Rattle.refusal.proofs.RowLaws.{passed}
use Rattle.refusal.specs.Rows as answer
use Rattle.short_code.specs.declared.Code.{Code}
use Rattle.short_code.specs.Codes.{good_code, states_of}
use Rattle.short_code.specs.CodeLaws.{states_are, good_length_lem}
use Rattle.short_fec.specs.Rows.{encode_rows}
use Rattle.short_encode.proofs.encode.Goals as goal

-- what an accepted call has
record Enough (code : Code) (state n out : ℕ) : Type 0 where
  good : good_code code ≡ true
  below : state < states_of code
  room : 2 * n ≤ out

enough : (code : Code) (state n out : ℕ) → answer.Accepted ≡ first_row (encode_rows code state n out) → Enough code state n out
enough code state n out e =
    let p = passed (encode_rows code state n out) tt (sym e) in
    record {
      good = not-false (good_code code) (p answer.Code);
      below = leb-false (states_of code) state (p answer.State);
      room = ltb-false out (2 * n) (p answer.Space);
    }

pub returns-in_err-answer_encode : goal.returns-in_err-answer_encode
returns-in_err-answer_encode c =
    let p = err_from_is_err_and c.from_residual.result c.from_residual.ensures.1 in
    record { answers = rw (p.1, p.2) (sym c.in_err-answer_encode.was ∙ c.answer_encode.ensures); state = rw p.1 tt; coded = rw p.1 refl }

pub half-requires : goal.half-requires
half-requires c =
    let a = c.args in
    let e = enough a.code a.enc.state (length a.bits.now) (length a.out.now) (sym c.in_ok-answer_encode.was ∙ c.answer_encode.ensures) in
    good_length_lem a.code e.good

pub encode_all-last-requires : goal.encode_all-last-requires
encode_all-last-requires c =
    let t = c in
    let a = t.args in
    let e = enough a.code a.enc.state (length a.bits.now) (length a.out.now) (sym t.in_ok-answer_encode.was ∙ t.answer_encode.ensures) in
    let half = c.half in
    let all = states_are a.code half.result half.ensures.2 in
    let below = e.below in
    (half.ensures.0, half.ensures.1, half.ensures.2, omega arith, e.room)

pub returns : goal.returns
returns c =
    let t = c in
    let x = c.encode_all-last.ensures in record { answers = sym t.in_ok-answer_encode.was ∙ t.answer_encode.ensures; state = x.0; coded = x.1 }
