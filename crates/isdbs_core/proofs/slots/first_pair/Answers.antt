use Prim.Native.Nat.{◌-◌, ◌≤◌}
use Rattle.isdbs_core.proofs.Pairs.{pair_next, pair_found, pair_none}
use Rattle.isdbs_combination.specs.CombinationLaws.{period_fits}
use native.Mathlib.Omega.{arith}
use Rattle.isdbs_core.proofs.slots.first_pair.Goals as goal

pub pairs-all-requires : goal.pairs-all-requires
pairs-all-requires c = tt

pub loop-j-init : goal.loop-j-init
loop-j-init c = (omega arith, omega arith)

pub offset_bounds-pairs-j : goal.offset_bounds-pairs-j
offset_bounds-pairs-j c =
    let at = c in
    let st = at in
    let k : st.pairs-all.result.count ≤ 4 = rw st.pairs-all.ensures (period_fits st.args.p).most in
    omega arith

pub bounds-pairs-j : goal.bounds-pairs-j
bounds-pairs-j c =
    let at = c in
    let st = at in
    let k : st.pairs-all.result.count ≤ 4 = rw st.pairs-all.ensures (period_fits st.args.p).most in
    omega arith

pub holds-requires : goal.holds-requires
holds-requires c = tt

pub loop-j-preserved : goal.loop-j-preserved
loop-j-preserved c =
    let at = c in
    let st = at in
    pair_next st.args.p st.pairs-all.result st.pairs-all.ensures st.args.i at.loop-j.j at.loop-j.invariant c.holds.result c.holds.ensures (omega arith) c.if-holds.false

pub returns-then-j-count : goal.returns-then-j-count
returns-then-j-count c =
    let at = c in
    let st = at in
    pair_none st.args.p st.pairs-all.result st.pairs-all.ensures st.args.i at.loop-j.j at.loop-j.invariant (omega arith)

pub returns-then-holds : goal.returns-then-holds
returns-then-holds c =
    let at = c in
    let st = at in
    pair_found st.args.p st.pairs-all.result st.pairs-all.ensures st.args.i at.loop-j.j at.loop-j.invariant c.holds.result c.holds.ensures (omega arith) c.if-holds.true
