-- The maximum subtracted from each path value.
use Rattle.std.specs.Prelude.{◌≡◌, List, map, Float}
use Rattle.std.proofs.Common.{◌∙◌, ap}
use Rattle.std.specs.Float.{binary32}
use Rattle.std.specs.Float.Ieee.{sub}
use Rattle.trellis.specs.Step.{top, renormalised}

pub subtracted : (pm new : List Float) (t : Float) → t ≡ top pm 64 → new ≡ map (λ x. sub binary32 x t) pm → new ≡ renormalised 32 pm
unfolding renormalised
subtracted pm new t is-t is-new = is-new ∙ ap (λ (y : Float). map (λ (x : Float). sub binary32 x y) pm) is-t
