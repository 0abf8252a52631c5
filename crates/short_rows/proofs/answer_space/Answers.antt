-- `short_fec::answer_space` meets its contract.
use mathlib.Core.Path.{refl, sym, ◌∙◌}
use Prim.Native.Nat.{◌+◌, ◌-◌}
use borrow.Author.Rules.{rules}
use mathlib.Core.Bool.{true, false}
use borrow.Author.Tests.{lt-ltb, le-ltb}
use borrow.Author.Rules.{rules}
use Rattle.short_rows.proofs.answer_space.Goals as goal

pub returns-then-few_places : goal.returns-then-few_places
returns-then-few_places c = rw (sym c.few_places.ensures ∙ c.if-few_places.true) refl

pub returns-then-decisions-traceback : goal.returns-then-decisions-traceback
returns-then-decisions-traceback c =
    let a = c.args in
    rw (sym c.few_places.ensures ∙ c.if-few_places.false, lt-ltb a.decisions (4096 + a.dec.traceback) (search rules)) refl

pub returns : goal.returns
returns c =
    let a = c.args in
    rw (sym c.few_places.ensures ∙ c.if-few_places.false, le-ltb a.decisions (4096 + a.dec.traceback) (search rules)) refl
