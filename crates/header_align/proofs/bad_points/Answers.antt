use Rattle.header_align.specs.Align.{bad_points}
use mathlib.Core.Path.{refl, sym, ◌∙◌}
use Rattle.header_align.proofs.bad_points.Goals as goal

pub returns-then-some_beyond : goal.returns-then-some_beyond
unfolding bad_points
returns-then-some_beyond c = let e = sym c.some_beyond.ensures ∙ c.if-some_beyond.true in rw e refl

pub returns-then-some_beyond-2 : goal.returns-then-some_beyond-2
unfolding bad_points
returns-then-some_beyond-2 c =
    let e = sym c.some_beyond.ensures ∙ c.if-some_beyond.false in
    let f = sym c.some_beyond-2.ensures ∙ c.if-some_beyond-2.true in
    rw (e, f) refl

pub returns : goal.returns
unfolding bad_points
returns c =
    let e = sym c.some_beyond.ensures ∙ c.if-some_beyond.false in
    let f = sym c.some_beyond-2.ensures ∙ c.if-some_beyond-2.false in
    rw (e, f) refl
