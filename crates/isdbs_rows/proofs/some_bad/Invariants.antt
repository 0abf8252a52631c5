-- `some_bad` meets its contract.
use Rattle.isdbs_rows.specs.DecodeRows.{some_of, bad_scale}
use mathlib.Core.Path.{◌≡◌}
use Rattle.isdbs_rows.proofs.some_bad.Given as goal

abbrev pub invariant-loop-s : goal.invariant-loop-s
invariant-loop-s l = l.some ≡ some_of bad_scale l.fn.scales l.s-index
