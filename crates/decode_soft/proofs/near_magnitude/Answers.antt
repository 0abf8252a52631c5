-- `near_magnitude` meets its contract.
use mathlib.Core.Path.{sym, subst}
use Prim.Native.Nat.{◌%◌}
use native.Mathlib.Omega.{arith}
use lib.Dec.{T}
use lib.Ieee.{binary64, fits, to_bits}
use Rattle.isdbs_metrics.specs.Reading.{absolute}
use Rattle.decode_soft.specs.Range.{shortened}
use Rattle.decode_soft.proofs.Widened.{in_range, short_ok, once, exact, near_absolute}
use Rattle.decode_soft.proofs.near_magnitude.Goals as goal

pub float_from_bits-result : goal.float_from_bits-result
float_from_bits-result c =
    let st = c in
    let x = st.args.x in
    let t : T (fits binary64 x) = subst T (sym st.well_formed.0.1) tt in
    rw c.rounded.ensures (short_ok (to_bits binary64 x % 9223372036854775808) (omega arith) (once (to_bits binary64 x) (in_range x st.requires)))

pub float_to_float-result : goal.float_to_float-result
float_to_float-result c =
    let st = c in
    let x = st.args.x in
    let t : T (fits binary64 x) = subst T (sym st.well_formed.0.1) tt in
    rw c.rounded.ensures (exact (absolute x) (shortened (to_bits binary64 x % 9223372036854775808)) (near_absolute x t st.requires) (short_ok (to_bits binary64 x % 9223372036854775808) (omega arith) (once (to_bits binary64 x) (in_range x st.requires))))

pub returns : goal.returns
returns c =
    let st = c in
    let x = st.args.x in
    let t : T (fits binary64 x) = subst T (sym st.well_formed.0.1) tt in
    rw c.rounded.ensures (near_absolute x t st.requires)
