-- `more` meets its contract.
use mathlib.Core.Path.{◌≡◌}
use lib.ListN.{drop}
use Rattle.bench_checksum.specs.Crc.{register}
use Rattle.bench_checksum.proofs.more.Given as goal

abbrev pub invariant-loop-b : goal.invariant-loop-b
invariant-loop-b l = register l.t (drop l.b-index l.s) ≡ register l.r l.s
