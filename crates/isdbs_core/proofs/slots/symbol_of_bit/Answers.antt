-- `symbol_of_bit` meets its contract.
use Prim.Native.Nat.{◌%◌}
use Rattle.isdbs_combination.specs.CombinationLaws.{period_fits, efficiency_fits}
use Rattle.isdbs_combination.specs.Combinations.{pairs_of, period_of}
use Rattle.isdbs_core.specs.SymbolLaws.{first_most, pairs_most}
use native.Mathlib.Nat.{mul-le-mul_left}
use native.Mathlib.Omega.{arith}
use Rattle.isdbs_core.proofs.slots.symbol_of_bit.Goals as goal

pub puncturing-requires : goal.puncturing-requires
puncturing-requires c = tt

pub period-period-requires : goal.period-period-requires
period-period-requires c = tt

pub pairs-all-requires : goal.pairs-all-requires
pairs-all-requires c = tt

pub nonzero_div-result : goal.nonzero_div-result
nonzero_div-result c = rw c.period-period.ensures (period_fits c.in-Some.p).some

pub overflow_mul-result : goal.overflow_mul-result
overflow_mul-result c =
    let m = pairs_most c.in-Some.p c.args.b in
    rw (c.period-period.ensures, c.pairs-all.ensures) (omega arith)

pub nonzero_rem-b : goal.nonzero_rem-b
nonzero_rem-b c = rw c.period-period.ensures (period_fits c.in-Some.p).some

pub first_pair-requires : goal.first_pair-requires
first_pair-requires c = tt

pub overflow_add-result : goal.overflow_add-result
overflow_add-result c =
    let at_p = c in
    let start = at_p in
    let p = at_p.in-Some.p in
    let b = start.args.b in
    let m = pairs_most p b in
    let f = period_fits p in
    let g = first_most (b % period_of p) (pairs_of p) in
    rw (c.first_pair.ensures, c.period-period.ensures, c.pairs-all.ensures) (omega arith)

pub efficiency-e-requires : goal.efficiency-e-requires
efficiency-e-requires c = tt

pub overflow_mul-result-in-None : goal.overflow_mul-result-in-None
overflow_mul-result-in-None c =
    let b = c.args.b in
    let m = mul-le-mul_left b (efficiency_fits c.args.c).most in
    rw c.efficiency-e.ensures (omega arith)

pub nonzero_div-result-in-None : goal.nonzero_div-result-in-None
nonzero_div-result-in-None c = rw c.efficiency-e.ensures (efficiency_fits c.args.c).some

pub returns-in-Some : goal.returns-in-Some
returns-in-Some c =
    rw (
      c.first_pair.ensures,
      c.period-period.ensures,
      c.pairs-all.ensures,
      ← c.puncturing.ensures,
      c.in-Some.is,
    )

pub returns-in-None : goal.returns-in-None
returns-in-None c =
    rw (c.efficiency-e.ensures, ← c.puncturing.ensures, c.in-None.is)
