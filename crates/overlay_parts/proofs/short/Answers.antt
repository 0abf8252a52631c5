-- `overlay_parts::short` meets its contract.
use mathlib.Core.Path.{refl, sym, ◌∙◌}
use borrow.Author.Tests.{lt-ltb, le-ltb}
use Rattle.overlay_parts.proofs.short.Goals as goal

pub returns-then-bits-n : goal.returns-then-bits-n
returns-then-bits-n c = rw (lt-ltb c.args.bits c.args.n c.if-bits-n.true) refl

pub returns-then-few : goal.returns-then-few
returns-then-few c =
    let a = c.args in
    rw (le-ltb a.bits a.n c.if-bits-n.false, sym c.few.ensures ∙ c.if-few.true) refl

pub returns-then-few-2 : goal.returns-then-few-2
returns-then-few-2 c =
    let s = c in
    let a = s.args in
    rw (le-ltb a.bits a.n s.if-bits-n.false, sym s.few.ensures ∙ s.if-few.false, sym c.few-2.ensures ∙ c.if-few-2.true) refl

pub returns : goal.returns
returns c =
    let u = c in
    let s = u in
    let a = s.args in
    rw (le-ltb a.bits a.n s.if-bits-n.false, sym s.few.ensures ∙ s.if-few.false, sym u.few-2.ensures ∙ u.if-few-2.false) c.few-3.ensures
