-- `search_arrays` meets its contract.
use Prim.Native.Nat.{◌≤◌}
use native.Mathlib.Omega.{arith}
use lib.ListN.{length}
use borrow.Author.Rules.{rules}
use Rattle.wanted_read.specs.Only.{few_bytes}
use Rattle.wanted_load.proofs.search_arrays.Goals as goal

pub search_load-requires : goal.search_load-requires
search_load-requires c =
    let a = c in
    let l = few_bytes a.args.f.plan.table a.requires.0.accepted in
    let q : 9744 ≤ length a.args.load.now = search rules in
    (a.requires.0, a.requires.1, a.requires.2, omega arith, search rules, search rules, a.requires.3)
