-- `viterbi_peak::greatest` meets its contract: four chains find the greatest where it is no zero.
use mathlib.Core.Logic.{inl, inr}
use Rattle.viterbi_peak.proofs.greatest.Goals as goal

pub returns-then-t : goal.returns-then-t
returns-then-t c = c.greatest_of_four-t.ensures (inl c.if-t.true)

pub returns-then-t-2 : goal.returns-then-t-2
returns-then-t-2 c = c.greatest_of_four-t.ensures (inr c.if-t-2.true)
