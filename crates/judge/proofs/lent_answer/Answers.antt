-- `lent_answer` meets its contract.
use Rattle.std.proofs.lemmas.Result.{err_from_is_err_and}
use mathlib.Core.Path.{refl, sym, ◌∙◌}
use mathlib.Core.List.{List, [], ◌∷◌}
use borrow.Author.Tests.{lt-ltb, le-ltb, eq-eqb, ne_eqb}
use lib.Dec.{ltb}
use Prim.Native.Nat.{ℕ}
use Rattle.refusal.specs.Rows.{Row, Space}
use Rattle.refusal.proofs.RowLaws.{err_refuses, refused_by, passed_by}
use Rattle.isdbs_rows.specs.DecodeRows.{point_rows}
use Rattle.isdbs_combination.specs.Combinations.{frame_slots}
use Rattle.judge.proofs.lent_answer.Goals as goal

-- row 9
abbrev last : ℕ → List Row
last counts = (Space, ltb counts frame_slots) ∷ []

pub returns-then-bytes-need : goal.returns-then-bytes-need
returns-then-bytes-need c = rw (ne_eqb _ _ c.if-bytes-need.true)

pub returns-in_err-points_answer : goal.returns-in_err-points_answer
returns-in_err-points_answer c =
    let a = c.args in
    let p = err_from_is_err_and c.from_residual.result c.from_residual.ensures.1 in
    rw (p.1, p.2, eq-eqb _ _ c.if-bytes-need.false) (refused_by (point_rows a.re.now a.im.now) (last a.counts) _ (sym c.in_err-points_answer.was ∙ c.points_answer.ensures) err_refuses)

pub returns-then-counts-lt-FRAME_SLOTS : goal.returns-then-counts-lt-FRAME_SLOTS
returns-then-counts-lt-FRAME_SLOTS c =
    let past = c in
    let a = past.args in
    rw (eq-eqb _ _ past.if-bytes-need.false)
    (passed_by (point_rows a.re.now a.im.now) (last a.counts) tt (sym past.in_ok-points_answer.was ∙ past.points_answer.ensures)
    (rw (lt-ltb a.counts frame_slots c.if-counts-lt-FRAME_SLOTS.true) refl))

pub returns : goal.returns
returns c =
    let past = c in
    let a = past.args in
    rw (eq-eqb _ _ past.if-bytes-need.false)
    (passed_by (point_rows a.re.now a.im.now) (last a.counts) tt (sym past.in_ok-points_answer.was ∙ past.points_answer.ensures)
    (rw (le-ltb a.counts frame_slots c.if-counts-lt-FRAME_SLOTS.false) refl))
