-- `parts` meets its contract.
use Rattle.std.proofs.Common.{◌≡◌, ℕ, eqb, rules}
use Rattle.std.specs.Prelude.{count_by}
use Rattle.bench_split.proofs.Laws.{stops_count}
use Rattle.bench_split.proofs.parts.Goals as goal

pub returns : goal.returns
returns c =
    let e : c.count.result ≡ count_by (λ (b : ℕ). eqb b c.args.stop) c.args.s.now = search rules in
    rw (e, stops_count)
