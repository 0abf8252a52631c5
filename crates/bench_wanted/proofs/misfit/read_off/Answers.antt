-- `read_off` meets its contract.
use Prim.Native.Nat.{◌≤◌}
use native.Mathlib.Omega.{arith}
use lib.ListN.{length}
use borrow.Author.Rules.{rules}
use Rattle.wanted_read.specs.Only.{few_bytes}
use Rattle.bench_wanted.proofs.misfit.read_off.Goals as goal

pub read_load-requires : goal.read_load-requires
read_load-requires c =
    let a = c in
    let l = few_bytes a.args.p.table a.requires.accepted in
    let q : 9744 ≤ length a.args.load.now = search rules in
    (c.start_state.ensures.1, a.requires, search rules, search rules, omega arith)
