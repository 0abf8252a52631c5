-- `add_terms` meets its contract.
use Rattle.std.proofs.Common.{◌≡◌, length}
use Rattle.quality_sums.specs.Adding.{added}
use Rattle.quality_sums.proofs.add_terms.Given as goal

abbrev pub invariant-loop-n : goal.invariant-loop-n
invariant-loop-n l = (length l.out ≡ length l.initial.out) × (l.out ≡ added l.fn.terms l.at l.initial.out l.n)
