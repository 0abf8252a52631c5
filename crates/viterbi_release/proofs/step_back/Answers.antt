-- `viterbi_release::step_back` meets its contract.
use mathlib.Core.Path.{refl}
use native.Mathlib.Omega.{arith}
use Rattle.trellis.specs.Step.{kept}
use Rattle.viterbi_release.proofs.step_back.Goals as goal

pub returns : goal.returns
unfolding kept
returns c = (refl, omega arith)
