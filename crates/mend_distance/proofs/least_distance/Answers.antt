use mathlib.Core.Path.{◌≡◌, ap}
use mathlib.Core.List.{List}
use Prim.Native.Nat.{ℕ, ◌+◌, ◌-◌, ◌*◌, ◌/◌, ◌%◌}
use native.Mathlib.Omega.{arith}
use borrow.Author.Rules.{rules}
use lib.ListN.{length, get_or}
use Rattle.trellis.proofs.DistanceLaws.{bits_at}
use Rattle.mend_distance.specs.Distances.{pair_at}
use Rattle.mend_distance.proofs.Passes.{table_none, table_more, table_capped}
use Rattle.mend_distance.proofs.least_distance.Goals as goal

pub loop-t-init : goal.loop-t-init
loop-t-init c =
    let a = c.args in
    (search rules, table_none (a.start % 64) (pair_at a.bits.now) c.start_table-d.result c.start_table-d.ensures)

pub distance_step-requires : goal.distance_step-requires
distance_step-requires c =
    let at = c in
    let start = at in
    let a = start.args in
    let bits = a.bits.now in
    let t = at.loop-t.t in
    (bits_at bits start.requires (2 * t), bits_at bits start.requires (2 * t + 1), table_capped (a.start % 64) (pair_at bits) t at.loop-t.d at.loop-t.invariant.1)

pub loop-t-preserved : goal.loop-t-preserved
loop-t-preserved c =
    let at = c in
    let a = at.args in
    (search rules, table_more (a.start % 64) (pair_at a.bits.now) at.loop-t.t at.loop-t.d _ at.loop-t.invariant.1 c.distance_step.ensures.0)

pub returns : goal.returns
returns c =
    let at = c in
    let a = at.args in
    let e : at.loop-t.t ≡ length a.bits.now / 2 = omega arith in
    ap (λ (d : List ℕ). get_or d (a.end % 64) 0) (rw e at at.loop-t.invariant.1)
