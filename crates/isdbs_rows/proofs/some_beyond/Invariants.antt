-- `some_beyond` meets its contract.
use Rattle.isdbs_rows.specs.DecodeRows.{some_of_beyond}
use mathlib.Core.Path.{◌≡◌}
use Rattle.isdbs_rows.proofs.some_beyond.Given as goal

abbrev pub invariant-loop-x : goal.invariant-loop-x
invariant-loop-x l = l.some ≡ some_of_beyond l.limit l.fn.xs l.x-index
