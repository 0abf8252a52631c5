-- `short_encode::answer_encode` meets its contract.
use mathlib.Core.Path.{refl, sym, ◌∙◌}
use native.Mathlib.Omega.{arith}
use borrow.Author.Tests.{not-false, le-leb, lt-leb}
use Rattle.short_code.specs.Codes.{good_code, states_of}
use Rattle.short_code.specs.CodeLaws.{states_are, good_length_lem}
use Rattle.short_encode.proofs.answer_encode.Goals as goal

pub returns-then-bad : goal.returns-then-bad
returns-then-bad c = rw (sym c.bad.ensures ∙ c.if-bad.true) refl

pub half-requires : goal.half-requires
half-requires c = good_length_lem c.args.code (not-false (good_code c.args.code) (sym c.bad.ensures ∙ c.if-bad.false))

pub returns-then-state-half : goal.returns-then-state-half
returns-then-state-half c =
    let a = c.args in
    let e = states_are a.code c.half.result c.half.ensures.2 in
    rw (sym c.bad.ensures ∙ c.if-bad.false, le-leb (states_of a.code) a.state (omega arith)) refl

pub returns-then-few : goal.returns-then-few
returns-then-few c =
    let a = c.args in
    let s = c in
    let e = states_are a.code s.half.result s.half.ensures.2 in
    rw (sym s.bad.ensures ∙ s.if-bad.false, lt-leb (states_of a.code) a.state (omega arith), sym c.few.ensures ∙ c.if-few.true) refl

pub returns : goal.returns
returns c =
    let a = c.args in
    let s = c in
    let e = states_are a.code s.half.result s.half.ensures.2 in
    rw (sym s.bad.ensures ∙ s.if-bad.false, lt-leb (states_of a.code) a.state (omega arith), sym c.few.ensures ∙ c.if-few.false) refl
