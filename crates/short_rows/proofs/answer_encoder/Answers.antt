-- `short_fec::answer_encoder` meets its contract.
use borrow.Author.Tests.{not-false}
use Rattle.short_code.specs.Codes.{good_code}
use mathlib.Core.Path.{refl, sym, ◌∙◌}
use native.Mathlib.Omega.{arith}
use borrow.Author.Tests.{le-leb, lt-leb}
use Rattle.short_code.specs.Codes.{states_of}
use Rattle.short_code.specs.CodeLaws.{states_are, good_length_lem}
use Rattle.short_rows.proofs.answer_encoder.Goals as goal

pub returns-then-bad : goal.returns-then-bad
returns-then-bad c = rw (sym c.bad.ensures ∙ c.if-bad.true) refl

pub half-requires : goal.half-requires
half-requires c = good_length_lem c.args.code (not-false (good_code c.args.code) (sym c.bad.ensures ∙ c.if-bad.false))

pub returns-then-state-half : goal.returns-then-state-half
returns-then-state-half c =
    let a = c.args in
    let e = states_are a.code c.half.result c.half.ensures.2 in
    rw (sym c.bad.ensures ∙ c.if-bad.false, le-leb (states_of a.code) a.state (omega arith)) refl

pub returns : goal.returns
returns c =
    let a = c.args in
    let e = states_are a.code c.half.result c.half.ensures.2 in
    rw (sym c.bad.ensures ∙ c.if-bad.false, lt-leb (states_of a.code) a.state (omega arith)) refl
