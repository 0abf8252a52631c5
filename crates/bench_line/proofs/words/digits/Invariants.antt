-- `digits` meets its contract.
use Rattle.std.proofs.Common.{◌≡◌, ◌<◌, drop}
use Rattle.bench_line.specs.Numbers.{number_from}
use Rattle.bench_line.specs.NumberLaws.{most}
use Rattle.bench_line.proofs.words.digits.Given as goal

abbrev pub invariant-loop-b : goal.invariant-loop-b
invariant-loop-b l = record {
  small : l.value < most l.b-index;
  rest : number_from l.value (drop l.b-index l.s) ≡ number_from 0 l.s;
}
