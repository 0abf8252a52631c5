-- `same` meets its contract.
use Rattle.std.proofs.Common.{◌≡◌, ℕ, eqb, rules}
use Rattle.std.specs.Cmp.Lexicographic.{pointwise}
use Rattle.bench_split.proofs.Laws.{equal_pointwise}
use Rattle.bench_split.proofs.same.Goals as goal

pub returns : goal.returns
returns c =
    let e : c.eq.result ≡ pointwise eqb c.args.a.now c.args.b.now = search rules in
    rw (e, equal_pointwise)
