-- `bytes_before` meets its contract.
use Rattle.std.proofs.Common.{◌≡◌, ◌+◌, length, drop}
use Rattle.bench_split.specs.Parts.{until}
use Rattle.bench_split.proofs.bytes_before.Given as goal

abbrev pub invariant-loop-j : goal.invariant-loop-j
invariant-loop-j l = l.j + length (until l.stop (drop l.j l.s)) ≡ length (until l.stop l.s)
