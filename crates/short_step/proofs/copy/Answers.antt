-- `short_step::copy` meets its contract.
use mathlib.Core.Path.{◌≡◌, refl, sym, ◌∙◌}
use native.Mathlib.Omega.{arith}
use lib.ListN.{length, get_or}
use lib.Ieee.{nan}
use Rattle.trellis.specs.LaidLaws.{front_upto}
use Rattle.short_step.proofs.copy.Goals as goal

pub returns : goal.returns
returns c =
    let a = c.args in
    c.copy_from_slice.ensures.after ∙ sym (front_upto nan (λ i. get_or a.new.now i nan) (length a.pm.now) a.new.now (omega arith) (λ k h. refl))
