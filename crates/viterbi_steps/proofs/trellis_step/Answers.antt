-- `viterbi_steps::trellis_step` meets its contract: each kind of step is what its function ensures.
use Rattle.viterbi_steps.specs.Runs.{step_values}
use Rattle.viterbi_steps.proofs.trellis_step.Goals as goal

pub returns-in-Pair : goal.returns-in-Pair
unfolding step_values
returns-in-Pair c = rw c.in-Pair.is c.acs.ensures

pub returns-in-Four : goal.returns-in-Four
unfolding step_values
returns-in-Four c = rw c.in-Four.is c.acs4.ensures

pub returns-in-Known : goal.returns-in-Known
unfolding step_values
returns-in-Known c = rw c.in-Known.is c.acs_known.ensures
