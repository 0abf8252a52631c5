-- `near_signed` meets its contract.
use mathlib.Core.Path.{sym, subst}
use lib.Dec.{T}
use lib.Ieee.{binary64, fits, to_bits}
use Rattle.decode_soft.specs.Range.{shortened}
use lib.Ieee.Bits.{to_bits-lt}
use Rattle.decode_soft.proofs.Widened.{in_range, short_ok, short_few, exact, near_soft}
use Rattle.decode_soft.proofs.near_signed.Goals as goal

pub rounded-requires : goal.rounded-requires
rounded-requires c =
    let x = c.args.x in
    let t : T (fits binary64 x) = subst T (sym c.well_formed.0.1) tt in
    short_few (to_bits binary64 x) (to_bits-lt binary64 x t) (in_range x c.requires)

pub float_from_bits-result : goal.float_from_bits-result
float_from_bits-result c =
    let st = c in
    let x = st.args.x in
    let t : T (fits binary64 x) = subst T (sym st.well_formed.0.1) tt in
    rw c.rounded.ensures (short_ok (to_bits binary64 x) (to_bits-lt binary64 x t) (in_range x st.requires))

pub float_to_float-result : goal.float_to_float-result
float_to_float-result c =
    let st = c in
    let x = st.args.x in
    let t : T (fits binary64 x) = subst T (sym st.well_formed.0.1) tt in
    rw c.rounded.ensures (exact x (shortened (to_bits binary64 x)) (near_soft x t st.requires) (short_ok (to_bits binary64 x) (to_bits-lt binary64 x t) (in_range x st.requires)))

pub returns : goal.returns
returns c =
    let st = c in
    let x = st.args.x in
    let t : T (fits binary64 x) = subst T (sym st.well_formed.0.1) tt in
    rw c.rounded.ensures (near_soft x t st.requires)
