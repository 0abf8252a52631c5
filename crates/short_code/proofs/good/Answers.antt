-- `short_code::good` meets its contract.
use mathlib.Core.Path.{refl, sym, ◌∙◌}
use native.Mathlib.Omega.{arith}
use Rattle.short_code.proofs.Coded.{short_length, long_length, good_is}
use Rattle.short_code.proofs.good.Goals as goal

pub returns-then-code-lt3 : goal.returns-then-code-lt3
returns-then-code-lt3 c = sym (short_length c.args.code c.if-code-lt3.true)

pub returns-then-code-gt7 : goal.returns-then-code-gt7
returns-then-code-gt7 c = sym (long_length c.args.code (omega arith) c.if-code-gt7.true)

pub returns-then-has_top : goal.returns-then-has_top
returns-then-has_top c =
    let start = c in
    let half = c.half-n in
    let a = start.args in
    c.has_top-then-has_top.ensures ∙ sym (good_is a.code half.result half.ensures.2 ∙ rw (← c.has_top.ensures, c.if-has_top.true) refl)

pub returns-else-has_top : goal.returns-else-has_top
returns-else-has_top c =
    let half = c.half-n in
    let a = c.args in
    sym (good_is a.code half.result half.ensures.2 ∙ rw (← c.has_top.ensures, c.if-has_top.false) refl)
