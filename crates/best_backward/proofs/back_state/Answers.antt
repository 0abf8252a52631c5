use mathlib.Core.Path.{refl, ◌∙◌}
use Prim.Native.Nat.{◌+◌, ◌*◌}
use Rattle.best_forward.specs.Room.{listed}
use Rattle.best_backward.proofs.Steps.{least_either}
use Rattle.best_backward.proofs.back_state.Goals as goal

pub returns : goal.returns
returns c =
    let aside = c in
    let later = aside in
    let other = later in
    let same = other in
    let start = same in
    let a = start.args in (
      least_either a.after.now (listed a.low.now) a.u (2 * a.s.j + a.s.b) _ _ _ start.requires.0 same.ahead-same.ensures other.ahead-other.ensures c.min.ensures,
      c.min-3.ensures ∙ rw (c.min-2.ensures, other.ahead-other.ensures, later.ahead-later.ensures, aside.ahead-aside.ensures) refl,
    )
