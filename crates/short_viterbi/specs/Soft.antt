-- The steps of a call of soft values: pairs where there are two for each step, else quadruples.
use Rattle.std.specs.Prelude.{cond, List, ℕ, eqb, Float}
use Rattle.trellis.specs.Step.{Step}
use Rattle.trellis.specs.Run.{pair_steps, four_steps}

abbrev pub soft_steps : ℕ → List Float → ℕ → Step
soft_steps per xs k = cond (eqb per 2) (pair_steps xs k) (four_steps xs k)
