-- `agreeing` meets its contract.
use Rattle.std.proofs.Common.{◌≡◌, ◌+◌}
use Rattle.bench_split.specs.Agreement.{agreement}
use Rattle.bench_split.proofs.agreeing.Given as goal

abbrev pub invariant-loop-x : goal.invariant-loop-x
invariant-loop-x l = l.n + agreement l.x-iterator.a.rest.now l.x-iterator.b.rest.now ≡ agreement l.a l.b
