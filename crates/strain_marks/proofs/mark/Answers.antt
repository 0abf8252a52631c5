-- `mark` meets its contract.
use mathlib.Core.List.{[], ◌∷◌}
use Rattle.strain_marks.specs.Marks.{mark_of}
use Rattle.strain_marks.proofs.Above.{below_top}
use Rattle.strain_marks.proofs.mark.Goals as goal

pub returns : goal.returns
unfolding mark_of
returns c =
    let a = c.args in
    let m = a.a ∷ a.b ∷ a.c ∷ a.d ∷ [] in
    rw (
      c.below-at3.ensures.0,
      c.below-at2.ensures.0,
      c.below-at1.ensures.0,
      c.below-at0.ensures.0,
      c.greatest-top.ensures,
      below_top m 0 4,
      below_top m 1 4,
      below_top m 2 4,
      below_top m 3 4,
    )
