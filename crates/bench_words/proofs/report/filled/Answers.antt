-- `filled` meets its contract.
use native.Mathlib.Nat.{mod-le}
use Rattle.bench_words.proofs.report.filled.Goals as goal

pub overflow_sub-result : goal.overflow_sub-result
overflow_sub-result c = mod-le c.args.n c.args.unit
