-- `free_at` meets its contract.
use mathlib.Core.Bool.{true, false}
use Rattle.isdbs_combination.specs.Combinations.{modulation_of}
use Rattle.margins.specs.Margins.{is_bpsk}
use Rattle.judge_points.proofs.Runs.{Passed}
use Rattle.judge_points.proofs.free_at.Given as goal

abbrev pub invariant-loop-run : goal.invariant-loop-run
invariant-loop-run l = Passed true (λ r. false) l.fn.list l.k l.run-index × Passed true (λ r. is_bpsk (modulation_of r.combination)) l.fn.list l.k l.run-index
