-- `or_length` meets its contract.
use mathlib.Core.Path.{sym, ◌∙◌}
use borrow.Author.Tests.{eq-eqb, ne_eqb}
use Rattle.refusal.specs.Rows.{number_of}
use Rattle.c_answers.proofs.or_length.Goals as goal

pub returns-then-n-ne0 : goal.returns-then-n-ne0
returns-then-n-ne0 c =
    let e = c.number-n.ensures in
    let a = c.args.above in
    rw (ne_eqb (number_of a) 0 (λ z. c.if-n-ne0.true (e ∙ z))) e

pub returns : goal.returns
returns c =
    let a = c.args.above in
    rw (eq-eqb (number_of a) 0 (sym c.number-n.ensures ∙ c.if-n-ne0.false)) c.number.ensures
