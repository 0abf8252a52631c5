use Rattle.best_sides.specs.RunSides.{side_of}
use mathlib.Core.Path.{refl}
use Rattle.best_sides.proofs.side_of.Goals as goal

pub returns : goal.returns
unfolding side_of
returns c = let a = c.better_bit-a.ensures.1 in
    let b = c.better_bit-b.ensures.1 in
    let d = c.better_bit-c.ensures.1 in
    let e = c.better_bit-e.ensures.1 in
    rw (a, b, d, e) refl
